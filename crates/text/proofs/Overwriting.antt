-- A text that is written over a buffer piece by piece, from an index on.
use Rattle.std.proofs.Common.{◌≡◌, ℕ, ◌+◌, ◌<◌, ◌≤◌, List, [], ◌∷◌, ◌++◌, length, get_or, take, drop, set, sym, ap, ◌∙◌, add-zero, arith, length-drop}
use borrow.Rule.Slice.PartMut.{put_mid}
use Rattle.std.proofs.lemmas.List.{append_assoc, drop-drop, drop_more, set_at, take-append-drop, take_at, drop_at, length-append, length-take-le}
use Rattle.text.specs.Buffer.{overwritten}

pub overwritten_none : (buffer : List ℕ) (at : ℕ) → buffer ≡ overwritten buffer at []
overwritten_none buffer at = sym (take-append-drop at buffer) ∙ ap (λ k. take at buffer ++ drop k buffer) (sym (add-zero at))

-- a second text, right behind the first
pub overwritten_more : (buffer text more so_far : List ℕ) (at past : ℕ) → at ≤ length buffer → past ≡ at + length text → so_far ≡ overwritten buffer at text → overwritten so_far past more ≡ overwritten buffer at (text ++ more)
overwritten_more buffer text more so_far at past within e is =
    let front = take at buffer ++ text in
    let rest = drop (at + length text) buffer in
    let long : length front ≡ past = length-append (take at buffer) text ∙ omega (arith, length-take-le at buffer within) in
    let apart : so_far ≡ front ++ rest = is ∙ sym (append_assoc (take at buffer) text rest) in
    let before : take past so_far ≡ front = ap (take past) apart ∙ take_at front rest past long in
    let behind : drop (past + length more) so_far ≡ drop (at + length (text ++ more)) buffer =
    sym (drop-drop (length more) past so_far)
    ∙ ap (drop (length more)) (ap (drop past) apart ∙ drop_at front rest past long)
    ∙ drop-drop (length more) (at + length text) buffer
    ∙ ap (λ k. drop k buffer) (omega (arith, length-append text more)) in
    ap (λ u. u ++ (more ++ drop (past + length more) so_far)) before
    ∙ ap (λ u. front ++ (more ++ u)) behind
    ∙ append_assoc (take at buffer) text (more ++ drop (at + length (text ++ more)) buffer)
    ∙ ap (λ u. take at buffer ++ u) (sym (append_assoc text more (drop (at + length (text ++ more)) buffer)))

-- a buffer over which a text was written so far, up to an index
pub record Written (buffer : List ℕ) (at past : ℕ) (text so_far : List ℕ) : Type 0 where
  pub is : so_far ≡ overwritten buffer at text
  pub long : past ≡ at + length text

pub begun : (buffer : List ℕ) (at : ℕ) → Written buffer at at [] buffer
begun buffer at = record { is = overwritten_none buffer at; long = sym (add-zero at) }

-- the next piece is written as a part of the buffer
pub then_part : {buffer text so_far piece : List ℕ} {at past : ℕ} (width : ℕ) (more : List ℕ) → Written buffer at past text so_far → at ≤ length buffer → piece ≡ more → length more ≡ width → Written buffer at (past + width) (text ++ more) (put_mid past width so_far piece)
then_part {buffer} {text} {so_far} {piece} {at} {past} width more w within is long = record {
  is = ap (λ u. take past so_far ++ (u ++ drop width (drop past so_far))) is
      ∙ ap (λ u. take past so_far ++ (more ++ u)) (drop-drop width past so_far ∙ ap (λ k. drop (past + k) so_far) (sym long))
      ∙ overwritten_more buffer text more so_far at past within w.long w.is;
  long = omega (arith, length-append text more, w.long);
}

-- the next byte
pub then_byte : {buffer text so_far : List ℕ} {at past : ℕ} (b : ℕ) → Written buffer at past text so_far → past < length buffer → Written buffer at (past + 1) (text ++ (b ∷ [])) (set so_far past b)
then_byte {buffer} {text} {so_far} {at} {past} b w room =
    let e : past ≡ at + length text = w.long in
    let rest = drop (at + length text) buffer in
    let inside : past < length so_far =
    omega (arith, ap length w.is, length-append (take at buffer) (text ++ rest), length-append text rest, length-take-le at buffer (omega arith), length-drop (at + length text) buffer) in
    record {
      is = ap (λ u. set u past b) (sym (take-append-drop past so_far) ∙ ap (λ u. take past so_far ++ u) (drop_more so_far past 0 inside))
          ∙ set_at (take past so_far) (get_or so_far past 0) (drop (past + 1) so_far) b past (length-take-le past so_far (omega arith))
          ∙ overwritten_more buffer text (b ∷ []) so_far at past (omega arith) e w.is;
      long = omega (arith, length-append text (b ∷ []));
    }
