use Rattle.std.proofs.Common.{ℕ, Bool, cond, leb, List, ◌++◌, length, drop, Some, None, Option, sym, ap, ◌∙◌, arith}
use Rattle.std.proofs.lemmas.Bool.{le-leb, lt-leb, and_from, and_left, and_right}
use Rattle.scripts.specs.Hex.{is_frame, pairs}
use Rattle.scripts.proofs.Pairing.{length_pairs}
use Rattle.scripts.proofs.hex_word.decode.Goals as goal

-- what is told, and what the buffer holds, by whether the frame is put there
abbrev told : List ℕ → Bool → Option ℕ
told word b = cond b (Some (length (pairs word))) None

abbrev held : List ℕ → List ℕ → Bool → List ℕ
held word buffer b = cond b (pairs word ++ drop (length (pairs word)) buffer) buffer

abbrev fits : List ℕ → List ℕ → Bool
fits word buffer = leb (length (pairs word)) (length buffer)

pub returns-then-not-is_hex : goal.returns-then-not-is_hex
returns-then-not-is_hex c =
    let word = c.args.word.now in
    let buffer = c.args.frame.now in
    let no = and_left (is_frame word) (fits word buffer) (sym c.if-not-is_hex.ensures) in
    record { answer = ap (told word) (sym no); after = ap (held word buffer) (sym no) }

pub returns-then-frame-size : goal.returns-then-frame-size
returns-then-frame-size c =
    let word = c.args.word.now in
    let buffer = c.args.frame.now in
    let no = and_right (is_frame word) (fits word buffer) (lt-leb _ _ (omega (arith, length_pairs word))) in
    record { answer = ap (told word) (sym no); after = ap (held word buffer) (sym no) }

pub place_pairs-requires : goal.place_pairs-requires
place_pairs-requires c = omega (arith, length_pairs c.args.word.now)

pub returns : goal.returns
returns c =
    let word = c.args.word.now in
    let buffer = c.args.frame.now in
    let yes = and_from (is_frame word) (fits word buffer) (sym c.if-not-is_hex.ensures) (le-leb _ _ (omega (arith, length_pairs word))) in
    record {
      answer = ap (λ k. Some k) (sym (length_pairs word)) ∙ ap (told word) (sym yes);
      after = c.place_pairs.ensures ∙ ap (held word buffer) (sym yes);
    }
