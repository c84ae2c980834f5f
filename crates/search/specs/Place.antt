-- Where a symbol stands among others.
use Rattle.std.specs.Prelude.{ℕ, suc, cond, List, [], ◌∷◌, Some, None, Option}
use Rattle.std.specs.Option.{option_map}
use Rattle.std.specs.Str.{bytes_eq}

-- the first index with the same bytes, if there is one
unfoldable pub place_of : List (List ℕ) → List ℕ → Option ℕ
place_of [] symbol = None
place_of (other ∷ others) symbol = cond (bytes_eq other symbol) (Some 0) (option_map (λ n. suc n) (place_of others symbol))
