-- The standard code book: the published codes of a trade report.
use Rattle.std.specs.Prelude.{◌≡◌, ℕ, Bool, false, cond, ◌&&◌, List, [], length, codes, ◌==◌, slice_index, refl}
use Rattle.cuts.specs.Cut.{has}
use Rattle.sheets.specs.declared.bucket.Bucket.{Bucket}
use Rattle.sheets.specs.declared.bucket.Bucket.TheVariants.{One, Two, Three, Four}
use Rattle.books.specs.Sets.{Sets}

-- exempt from the trade-through rule, or not
abbrev pub flags : List ℕ
flags = codes "X "

-- buy, sell, cross, short sale
abbrev pub sides : List ℕ
sides = codes "BSXR"

-- settlement type; reason for the exemption; extended hours or sold; detail of the trade
abbrev pub values : Bucket → List ℕ
values One = codes "@CNRY"
values Two = codes "FO456789 "
values Three = codes "TLZU "
values Four = codes "1ABDEGHIKMPQSVWX "

-- the second byte goes by the flag: any of its bucket with an exempt trade, but four with one that is not
abbrev pub reasons : ℕ → List ℕ
reasons flag = cond (flag == 88) (values Two) (cond (flag == 32) (codes "O56 ") [])

abbrev pub together : ℕ → List ℕ → Bool
together flag c =
    (length c == 4)
    && (has (slice_index c 0) (values One)
    && (has (slice_index c 1) (reasons flag)
    && (has (slice_index c 2) (values Three)
    && has (slice_index c 3) (values Four))))

abbrev pub comma_free : (bucket : Bucket) → has 44 (values bucket) ≡ false
comma_free One = refl
comma_free Two = refl
comma_free Three = refl
comma_free Four = refl

abbrev pub standard_sets : Sets
standard_sets = record {
  flags = λ b. has b flags;
  sides = λ b. has b sides;
  values = λ bucket b. has b (values bucket);
  pairs = together;
  no_comma_flag = refl;
  no_comma_side = refl;
  no_comma_value = comma_free;
}
