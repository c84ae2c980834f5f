-- Fields that lie side by side in a frame.
use Rattle.std.proofs.Common.{◌≡◌, ℕ, ◌+◌, ◌-◌, ◌^◌, ◌<◌, ◌≤◌, List, [], ◌∷◌, ◌++◌, length, get_or, take, drop, sym, ap, ◌∙◌, add-zero, arith, length-drop}
use Rattle.std.specs.List.{AllByRecursion as All}
use Rattle.std.proofs.ByRecursion.{All-take, All-drop}
use Rattle.std.proofs.lemmas.List.{drop_at, drop-drop, get_or-drop, length-take-le, take_at, take_more, take-append-drop, take-take, drop-take}
use Rattle.wire.specs.Number.{bytes_of, value_of}
use Rattle.wire.specs.Part.{part}
use Rattle.wire.proofs.Numbers.{bytes-value, length-bytes, value_bytes}

-- what is left of a frame past an offset
pub record Left (frame : List ℕ) (at : ℕ) (rest : List ℕ) : Type 0 where
  pub is : drop at frame ≡ rest

-- the field that comes next
pub field_at : {frame : List ℕ} {at : ℕ} (width : ℕ) (field rest : List ℕ) → Left frame at (field ++ rest) → length field ≡ width → take width (drop at frame) ≡ field
field_at width field rest l e = ap (take width) l.is ∙ take_at field rest width e

pub byte_at : {frame : List ℕ} {at : ℕ} (b : ℕ) (rest : List ℕ) → Left frame at ((b ∷ []) ++ rest) → get_or frame at 0 ≡ b
byte_at {frame} {at} b rest l = ap (λ k. get_or frame k 0) (sym (add-zero at)) ∙ sym (get_or-drop at frame 0 0) ∙ ap (λ u. get_or u 0 0) l.is

pub number_at : {frame : List ℕ} {at : ℕ} (width n : ℕ) (rest : List ℕ) → Left frame at (bytes_of width n ++ rest) → n < 256 ^ width → value_of (take width (drop at frame)) ≡ n
number_at width n rest l fits = ap value_of (field_at width (bytes_of width n) rest l (length-bytes width n)) ∙ value_bytes width n fits

-- what is left past it
pub past_field : {frame : List ℕ} {at : ℕ} (width : ℕ) (field rest : List ℕ) → Left frame at (field ++ rest) → length field ≡ width → Left frame (at + width) rest
past_field {frame} {at} width field rest l e = record { is = sym (drop-drop width at frame) ∙ ap (drop width) l.is ∙ drop_at field rest width e }

-- fields that were read one after the other are the frame between two offsets
pub record Joined (frame : List ℕ) (from to : ℕ) (fields : List ℕ) : Type 0 where
  pub is : fields ≡ part from to frame

joined_parts : (m n : ℕ) (xs : List ℕ) → take m xs ++ take n (drop m xs) ≡ take (m + n) xs
joined_parts m n xs =
    sym (ap (λ u. u ++ take n (drop m xs)) (take-take m (m + n) xs (omega arith)))
    ∙ ap (λ u. take m (take (m + n) xs) ++ u) (sym (drop-take m n xs))
    ∙ take-append-drop m (take (m + n) xs)

pub join : {frame fields : List ℕ} {from to : ℕ} (next : ℕ) (field : List ℕ) → Joined frame from to fields → from ≤ to → to ≤ next → field ≡ part to next frame → Joined frame from next (fields ++ field)
join {frame} {fields} {from} {to} next field j first then e =
    let m = to - from in
    let n = next - to in
    record {
      is = ap (λ u. u ++ field) j.is ∙ ap (λ u. part from to frame ++ u) e
          ∙ ap (λ k. take m (drop from frame) ++ take n (drop k frame)) (omega arith)
          ∙ ap (λ u. take m (drop from frame) ++ take n u) (sym (drop-drop m from frame))
          ∙ joined_parts m n (drop from frame)
          ∙ ap (λ k. take k (drop from frame)) (omega arith);
    }

-- a number is written as it was read
pub number_again : (frame : List ℕ) (from to width : ℕ) → to ≤ length frame → to - from ≡ width → from ≤ to → All (λ b. b < 256) frame → bytes_of width (value_of (part from to frame)) ≡ part from to frame
number_again frame from to width within wide order bytes =
    let long : length (part from to frame) ≡ width = length-take-le (to - from) (drop from frame) (simp length-drop (omega arith)) ∙ wide in
    bytes-value width (part from to frame) long (All-take (λ b. b < 256) (to - from) (drop from frame) (All-drop (λ b. b < 256) from frame bytes))

pub byte_again : (frame : List ℕ) (at : ℕ) → at < length frame → (get_or frame at 0 ∷ []) ≡ part at (at + 1) frame
byte_again frame at within =
    let one : at + 1 - at ≡ 0 + 1 = omega arith in
    sym
    (ap (λ k. take k (drop at frame)) one
    ∙ take_more (drop at frame) 0 0 (simp length-drop (omega arith))
    ∙ ap (λ b. b ∷ []) (get_or-drop at frame 0 0 ∙ ap (λ k. get_or frame k 0) (add-zero at)))
