-- What is told of a day sheet's fault.
use Rattle.std.specs.Prelude.{ℕ, List, ◌++◌, codes, decimal}
use Rattle.sheets.specs.Cause.{number_of}
use Rattle.sheets.specs.declared.fault.Fault.{Fault}
use Rattle.sheets.specs.declared.fault.Layer.{Layer}
use Rattle.sheets.specs.declared.fault.Layer.TheVariants.{Line, Field, Sheet}

-- the layers in which a day sheet is read, by name
abbrev pub layer_name : Layer → List ℕ
layer_name Line = codes "line"
layer_name Field = codes "field"
layer_name Sheet = codes "sheet"

abbrev pub fault_text : Fault → List ℕ
fault_text fault =
    decimal (number_of fault.cause)
    ++ codes ", "
    ++ layer_name fault.layer
    ++ codes " layer, line "
    ++ decimal fault.line
    ++ codes ", field "
    ++ decimal fault.field
