-- What `{:02x}` writes of a byte that does not stand for itself.
use Rattle.std.proofs.Common.{◌≡◌, ℕ, ◌^◌, ◌-◌, ◌/◌, ◌%◌, ◌<◌, false, cond, [], ◌∷◌, ◌++◌, Some, codes, ap, ◌∙◌}
use Rattle.std.specs.Fmt.{◌++?◌, digits, format_spec, padded_integral}
use Rattle.std.proofs.lemmas.Fmt.{hex_byte}
use Rattle.show.specs.Quoted.{escaped, hex_digit, plain}

pub hex_escape : (b : ℕ) → b < 256 → false ≡ plain b → (Some (codes "\\x") ++? Some (padded_integral (format_spec 32 0 4 2 (2 ^ 64 - 1)) false [] (digits 16 false b))) ≡ Some (escaped b)
hex_escape b small other =
    ap (λ t. Some (codes "\\x" ++ t)) (hex_byte false b small)
    ∙ ap (λ p. Some (cond p (b ∷ []) (codes "\\x" ++ (hex_digit (b / 16) ∷ []) ++ (hex_digit (b % 16) ∷ [])))) other
