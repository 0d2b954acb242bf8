-- What a fault was before it was passed on.
use Rattle.std.proofs.Common.{◌≡◌, Result, Ok, Err, refl, sym, ap, ◌∙◌, rules}
use Rattle.std.specs.Result.{IsErrAnd}
use Rattle.sweep_core.specs.Faults.{fault_of}
use Rattle.sweep_core.specs.declared.fault.StoreFault.{StoreFault}
use Rattle.sweep_core.specs.declared.fault.StoreFault.TheVariants as store
use Rattle.sweep_core.specs.declared.fault.SweepFault.{SweepFault}
use Rattle.sweep_core.specs.declared.fault.SweepFault.TheVariants as sweep

abbrev error_or : {A E : Type 0} → E → Result A E → E
error_or d (Ok a) = d
error_or d (Err e) = e

pub was_wide : {A : Type 0} (r : Result A StoreFault) (f : StoreFault) → IsErrAnd r (λ e. e ≡ f) → r ≡ Err store.TooWide → f ≡ store.TooWide
was_wide (Ok a) f h is = absurd h
was_wide (Err e) f h is = sym h ∙ ap (error_or f) is

of_wide : (f : StoreFault) → fault_of f ≡ sweep.TooWide → f ≡ store.TooWide
of_wide store.TooWide is = refl
of_wide (store.OutOfMemory want) is = search rules

pub was_wide_store : {A : Type 0} (r : Result A SweepFault) (f : StoreFault) → IsErrAnd r (λ e. e ≡ fault_of f) → r ≡ Err sweep.TooWide → f ≡ store.TooWide
was_wide_store (Ok a) f h is = absurd h
was_wide_store (Err e) f h is = of_wide f (sym h ∙ ap (error_or (fault_of f)) is)
