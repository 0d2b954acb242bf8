use Rattle.waiting_queue.proofs.ranges.RangePassFillsPart.fill.Goals as goal

pub pass_range-passed-requires-clause-sorted : goal.pass_range-passed-requires-clause-sorted
pass_range-passed-requires-clause-sorted g c = c.requires.each c.args.place c.index-self-place.result c.requires.there
