-- A line's part of all records, and what stands at an index of a list.
use Rattle.std.proofs.Common.{◌≡◌, ℕ, zero, suc, ◌+◌, ◌*◌, ◌<◌, ◌≤◌, List, [], ◌∷◌, ◌++◌, length, get_or, take, drop, set, Some, sym, refl, ap, ◌∙◌, arith, take-append-drop, get_or-drop, get_or-take, drop-drop}
use lib.Seq.{drop-set-add, set-append_left, take-set-le}
use Rattle.lists.specs.Market.{at_index}
use Rattle.day.specs.State.{part_of, with_part}
use Rattle.day.proofs.Parts.{length_part}

module _ {X : Type 0} where
  pub read-part : (width line : ℕ) (xs : List X) (place : ℕ) (d : X) → place < width → get_or xs (line * width + place) d ≡ get_or (part_of width line xs) place d
  read-part width line xs place d h = sym (get_or-take width (drop (line * width) xs) place d h ∙ get_or-drop (line * width) xs place d)

  -- what is put at a place of all records is put at a place of the line's part
  pub set-part : (width line place : ℕ) (x : X) (xs : List X) → place < width → line * width + width ≤ length xs → set xs (line * width + place) x ≡ with_part width line (set (part_of width line xs) place x) xs
  set-part width line place x xs h k =
      let inside : place < length (part_of width line xs) = rw length_part h in
      sym (take-append-drop (line * width) (set xs (line * width + place) x))
      ∙ ap (λ l. l ++ drop (line * width) (set xs (line * width + place) x)) (take-set-le (line * width) xs (line * width + place) x (omega arith))
      ∙ ap (λ l. take (line * width) xs ++ l)
      (drop-set-add (line * width) xs place x
      ∙ ap (λ l. set l place x) (sym (take-append-drop width (drop (line * width) xs)))
      ∙ set-append_left (part_of width line xs) (drop width (drop (line * width) xs)) place x inside
      ∙ ap (λ l. set (part_of width line xs) place x ++ l) (drop-drop width (line * width) xs))

-- what stands at an index of a list that has it
pub at_index_lem : (texts : List (List ℕ)) (i : ℕ) → i < length texts → at_index texts i ≡ Some (get_or texts i [])
at_index_lem [] i h = absurd (omega arith)
at_index_lem (text ∷ texts) zero h = refl
at_index_lem (text ∷ texts) (suc i) h = at_index_lem texts i (omega arith)
