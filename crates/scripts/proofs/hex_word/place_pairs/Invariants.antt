use Rattle.scripts.proofs.Pairing.{Placed}
use Rattle.scripts.proofs.hex_word.place_pairs.Given as goal

abbrev pub invariant-loop-i : goal.invariant-loop-i
invariant-loop-i l = Placed l.word l.initial.frame l.frame l.i
