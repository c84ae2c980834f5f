-- A sheet made from a slice of reports, one after the other.
use Rattle.std.proofs.Common.{◌≡◌, ℕ, ◌+◌, ◌<◌, ◌≤◌, false, ltb, List, [], ◌∷◌, ◌++◌, length, get_or, take, drop, sym, ap, ◌∙◌, subst, arith}
use Rattle.std.proofs.lemmas.List.{take_more, take_all, take-append-drop}
use Rattle.std.proofs.lemmas.Bool.{ltb-false, le-ltb}
use Rattle.stats.specs.declared.entry.Entry.{Entry}
use Rattle.stats.specs.declared.plain_sheet.PlainSheet.{PlainSheet}
use Rattle.stats.specs.Reports.{total, sheet_of, Unordered}
use Rattle.stats.proofs.Joins.{sums, joined-append, joined-push}
use Rattle.stats.proofs.Noting.{unordered}

module _ {R L : Type 0} (enter : R → Entry L) (rs : List R) (i : ℕ) where
  next : (r : R) → i < length rs → r ≡ get_or rs i r → take (i + 1) rs ≡ take i rs ++ (r ∷ [])
  next r h e = take_more rs i r h ∙ ap (λ q. take i rs ++ (q ∷ [])) (sym e)

  total-take : total enter (take (i + 1) rs) ≤ total enter rs
  total-take =
      let a = ap (total enter) (take-append-drop (i + 1) rs) in
      let b = joined-append sums (λ q. (enter q).adds) (take (i + 1) rs) (drop (i + 1) rs) in
      omega arith

  -- where one report is too much, all of them are
  pub too_much : (r : R) (s : PlainSheet L) (limit : ℕ) → i < length rs → r ≡ get_or rs i r → s ≡ sheet_of enter (take i rs) → ltb (s.volume + (enter r).adds) limit ≡ false → ltb (total enter rs) limit ≡ false
  too_much r s limit h e held full =
      let a = ap (total enter) (next r h e) in
      let b = joined-push sums (λ q. (enter q).adds) (take i rs) r in
      let v = ap (λ (t : PlainSheet L). t.volume) held in
      let f = ltb-false (s.volume + (enter r).adds) limit full in
      let t = total-take in
      le-ltb (total enter rs) limit (omega arith)

  pub whole : (s : PlainSheet L) → length rs ≤ i → s ≡ sheet_of enter (take i rs) → s ≡ sheet_of enter rs
  whole s h held = held ∙ ap (sheet_of enter) (take_all i rs h)

pub unordered_at : {R L : Type 0} (enter : R → Entry L) (rs : List R) (s : PlainSheet L) → s ≡ sheet_of enter rs → Unordered enter rs s
unordered_at enter rs s e = subst (λ t. Unordered enter rs t) (sym e) (unordered enter rs)
