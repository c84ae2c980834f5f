use Rattle.std.proofs.Common.{◌≡◌, replicate}
use Rattle.processor.proofs.floor.making.filled.Given as goal

abbrev pub invariant-loop : goal.invariant-loop
invariant-loop g l = l.items.items ≡ replicate l.counter l.value
