-- What holds of a field holds of the row that is made of it.
use Rattle.std.proofs.Common.{ℕ, Bool, true, false, cond, eqb, List, IfSome, IfOk, Some, None, Ok, Err, Option, Result}
use Rattle.sheets.specs.declared.fault.FieldFault.{FieldFault}
use Rattle.sheets.specs.declared.fault.FieldFault.TheVariants.{FieldCount}
use Rattle.sheets.specs.declared.fault.LineFault.{LineFault}
use Rattle.cuts.specs.Cut.{field_count}
use Rattle.sheets.specs.Layers.{Rules, row_in}
use Rattle.sheets.specs.Forms.{counted, formed, and_then}

pub choice_made : {Row : Type 0} (P : Row → Type 0) (b : Bool) (x y : Result Row FieldFault) → IfOk x P → IfOk y P → IfOk (cond b x y) P
choice_made P true x y p q = p
choice_made P false x y p q = q

pub counted_made : {Row : Type 0} (P : Row → Type 0) (number : ℕ) (line : List ℕ) (r : Result Row FieldFault) → IfOk r P → IfOk (counted number line r) P
counted_made P number line r p = choice_made P (eqb (field_count line) number) r (Err FieldCount) p tt

pub then_made : {X Row : Type 0} (Q : X → Type 0) (P : Row → Type 0) (r : Result X FieldFault) (next : X → Result Row FieldFault) → IfOk r Q → ((x : X) → Q x → IfOk (next x) P) → IfOk (and_then r next) P
then_made Q P (Ok x) next q more = more x q
then_made Q P (Err fault) next q more = tt

pub formed_made : {X : Type 0} (Q : X → Type 0) (number : ℕ) (o : Option X) → IfSome o Q → IfOk (formed number o) Q
formed_made Q number None q = tt
formed_made Q number (Some x) q = q

pub line_made : {Row : Type 0} (rules : Rules Row) (P : Row → Type 0) → ((line : List ℕ) → IfOk (rules.row_of line) P) → (r : Result (List ℕ) LineFault) → IfOk (row_in rules r) P
line_made rules P each (Ok line) = each line
line_made rules P each (Err fault) = tt
