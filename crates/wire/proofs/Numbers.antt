-- Big-endian numbers, over the width of the field.
use Rattle.std.proofs.Common.{◌≡◌, ℕ, zero, suc, ◌+◌, ◌*◌, ◌/◌, ◌%◌, ◌^◌, ◌<◌, List, [], ◌∷◌, ◌++◌, length, get_or, sym, refl, ap, ◌∙◌, add-zero, pow-suc, zero-add, arith, length-append}
use Rattle.std.specs.List.{AllByRecursion as All}
use Rattle.std.proofs.lemmas.Nat.{div_below, div-mul-add}
use Rattle.std.proofs.lemmas.List.{append-nil, append_assoc}
use Rattle.wire.specs.Number.{value_after, value_of, bytes_of}

-- the elements of a list from an index on, one by one
abbrev pub places : ℕ → ℕ → List ℕ → List ℕ
places zero i xs = []
places (suc n) i xs = get_or xs i 0 ∷ places n (suc i) xs

places_tail : (n i x : ℕ) (xs : List ℕ) → places n (suc i) (x ∷ xs) ≡ places n i xs
places_tail zero i x xs = refl
places_tail (suc n) i x xs = ap (λ ys. get_or xs i 0 ∷ ys) (places_tail n (suc i) x xs)

places_all : (xs : List ℕ) → xs ≡ places (length xs) 0 xs
places_all [] = refl
places_all (x ∷ xs) = ap (λ ys. x ∷ ys) (places_all xs ∙ sym (places_tail (length xs) 0 x xs))

-- a number whose bytes were read one by one is the number that the part writes
pub value_read : (width : ℕ) (part : List ℕ) (n : ℕ) → length part ≡ width → n ≡ value_of (places width 0 part) → n ≡ value_of part
value_read width part n l e = e ∙ ap (λ k. value_of (places k 0 part)) (sym l) ∙ ap value_of (sym (places_all part))

value_push : (n : ℕ) (bs : List ℕ) (b : ℕ) → value_after n (bs ++ (b ∷ [])) ≡ value_after n bs * 256 + b
unfolding value_after
value_push n [] b = refl
value_push n (x ∷ bs) b = value_push (n * 256 + x) bs b

-- a number that fits its field is what its bytes write
pub value_bytes : (width n : ℕ) → n < 256 ^ width → value_of (bytes_of width n) ≡ n
unfolding value_after value_of bytes_of
value_bytes zero n h = omega arith
value_bytes (suc width) n h =
    let low : n / 256 < 256 ^ width = div_below n 256 (256 ^ width) (omega arith) (rw pow-suc at h) in
    let front : value_of (bytes_of width (n / 256)) ≡ n / 256 = value_bytes width (n / 256) low in
    value_push 0 (bytes_of width (n / 256)) (n % 256) ∙ omega arith

pub length-bytes : (width n : ℕ) → length (bytes_of width n) ≡ width
unfolding bytes_of
length-bytes zero n = refl
length-bytes (suc width) n = let front = length-bytes width (n / 256) in simp length-append (omega arith)

bytes_after : (bs : List ℕ) (width n : ℕ) → All (λ b. b < 256) bs → bytes_of (length bs + width) (value_after n bs) ≡ bytes_of width n ++ bs
unfolding value_after bytes_of
bytes_after [] width n h = rw (zero-add, append-nil)
bytes_after (b ∷ bs) width n h =
    let high : (n * 256 + b) / 256 ≡ n = div-mul-add n 256 b h.0 in
    let low : (n * 256 + b) % 256 ≡ b = omega (arith, h.0) in
    let wider : suc (length bs) + width ≡ length bs + suc width = omega arith in
    ap (λ k. bytes_of k (value_after (n * 256 + b) bs)) wider
    ∙ bytes_after bs (suc width) (n * 256 + b) h.1
    ∙ ap (λ m. bytes_of width m ++ ((n * 256 + b) % 256 ∷ []) ++ bs) high
    ∙ ap (λ m. bytes_of width n ++ (m ∷ []) ++ bs) low
    ∙ append_assoc (bytes_of width n) (b ∷ []) bs

-- bytes are what the number that they write is written as
pub bytes-value : (width : ℕ) (bs : List ℕ) → length bs ≡ width → All (λ b. b < 256) bs → bytes_of width (value_of bs) ≡ bs
unfolding value_of bytes_of
bytes-value width bs l h = ap (λ k. bytes_of k (value_of bs)) (sym l ∙ sym (add-zero (length bs))) ∙ bytes_after bs 0 0 h
