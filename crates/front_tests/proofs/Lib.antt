mod SettleLemmas
