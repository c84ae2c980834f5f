-- What a practice day keeps of a line.
use Rattle.std.specs.Prelude.{false, None}
use Rattle.states.specs.declared.line_status.LineStatus.{LineStatus}

-- feed sequences begin at 1
abbrev pub fresh_line : LineStatus
fresh_line = record { logged_in = false; cut = None; expected_sequence = 1; consumed = 0 }
