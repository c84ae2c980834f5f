-- A line's part of a list in which every line has as many places.
use Rattle.std.proofs.Common.{◌≡◌, ℕ, ◌+◌, ◌-◌, ◌*◌, ◌<◌, ◌≤◌, ◌≢◌, List, ◌++◌, length, take, drop, sym, ap, ◌∙◌, subst, mul-le-mul_right, suc-mul, arith, length-append, length-drop, take-append-drop, length-take-le, drop-drop, take_at, drop_at}
use native.Mathlib.Omega.{ne_cases}
use lib.Seq.{take-append-le, drop-append-le, drop-append-add}
use Rattle.std.proofs.lemmas.List.{append_assoc}
use Rattle.day.specs.State.{part_of, with_part}

-- a line's part ends before the next line's begins
pub ends_before : (line next width : ℕ) → line < next → line * width + width ≤ next * width
ends_before line next width h = subst (λ (k : ℕ). k ≤ next * width) (suc-mul line width) (mul-le-mul_right width h)

module _ {X : Type 0} where
  -- a part that ends in the front of a list is the front's
  pub part-front : (width line : ℕ) (front rest : List X) → line * width + width ≤ length front → part_of width line (front ++ rest) ≡ part_of width line front
  part-front width line front rest h =
      let within : width ≤ length (drop (line * width) front) = simp length-drop (omega arith) in
      ap (take width) (drop-append-le (line * width) front rest (omega arith)) ∙ take-append-le width (drop (line * width) front) rest within

  pub part-again : (width line : ℕ) (new xs : List X) → length new ≡ width → line * width ≤ length xs → part_of width line (with_part width line new xs) ≡ new
  part-again width line new xs long h =
      ap (take width) (drop_at (take (line * width) xs) (new ++ drop (line * width + width) xs) (line * width) (length-take-le (line * width) xs h))
      ∙ take_at new (drop (line * width + width) xs) width long

  earlier : (width line other : ℕ) (new xs : List X) → other < line → line * width + width ≤ length xs → part_of width other (with_part width line new xs) ≡ part_of width other xs
  earlier width line other new xs lt h =
      let apart : other * width + width ≤ line * width = ends_before other line width lt in
      let front : length (take (line * width) xs) ≡ line * width = length-take-le (line * width) xs (omega arith) in
      let within : other * width + width ≤ length (take (line * width) xs) = omega arith in
      part-front width other (take (line * width) xs) (new ++ drop (line * width + width) xs) within
      ∙ sym (part-front width other (take (line * width) xs) (drop (line * width) xs) within)
      ∙ ap (part_of width other) (take-append-drop (line * width) xs)

  later : (width line other : ℕ) (new xs : List X) → line < other → length new ≡ width → line * width + width ≤ length xs → part_of width other (with_part width line new xs) ≡ part_of width other xs
  later width line other new xs lt long h =
      let end = line * width + width in
      let apart : end ≤ other * width = ends_before line other width lt in
      let front : length (take (line * width) xs) ≡ line * width = length-take-le (line * width) xs (omega arith) in
      let both : length (take (line * width) xs ++ new) ≡ end = simp length-append (omega arith) in
      let more : length (take (line * width) xs ++ new) + (other * width - end) ≡ other * width = omega arith in
      let same : end + (other * width - end) ≡ other * width = omega arith in
      ap (take width)
      (ap (drop (other * width)) (sym (append_assoc (take (line * width) xs) new (drop end xs)))
      ∙ ap (λ (i : ℕ). drop i ((take (line * width) xs ++ new) ++ drop end xs)) (sym more)
      ∙ drop-append-add (take (line * width) xs ++ new) (drop end xs) (other * width - end)
      ∙ drop-drop (other * width - end) end xs
      ∙ ap (λ (i : ℕ). drop i xs) same)

  pub part-other : (width line other : ℕ) (new xs : List X) → line ≢ other → length new ≡ width → line * width + width ≤ length xs → part_of width other (with_part width line new xs) ≡ part_of width other xs
  part-other width line other new xs ne long h =
      ne_cases line other (part_of width other (with_part width line new xs) ≡ part_of width other xs) ne (λ lt. later width line other new xs lt long h) (λ lt. earlier width line other new xs lt h)

  pub length-with : (width line : ℕ) (new xs : List X) → length new ≡ width → line * width + width ≤ length xs → length (with_part width line new xs) ≡ length xs
  length-with width line new xs long h =
      let front : length (take (line * width) xs) ≡ line * width = length-take-le (line * width) xs (omega arith) in
      simp (length-append, length-append, length-drop) (omega arith)

  pub length_part : (width line : ℕ) (xs : List X) → line * width + width ≤ length xs → length (part_of width line xs) ≡ width
  length_part width line xs h = length-take-le width (drop (line * width) xs) (simp length-drop (omega arith))
