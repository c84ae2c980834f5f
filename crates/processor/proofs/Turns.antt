-- A turn of a line as what is put at the places of a day.
use Rattle.std.proofs.Common.{◌≡◌, ℕ, ◌*◌, List, ◌++◌, take, drop, set, sym, ap, ◌∙◌, take-append-drop, drop-drop}
use lib.Seq.{set-get_or}
use Rattle.states.specs.LineStatus.{fresh_line}
use Rattle.states.specs.declared.line_status.LineStatus.{LineStatus}
use Rattle.day.specs.Call.{Reply}
use Rattle.day.specs.LineCalls.{quiet}
use Rattle.day.specs.State.{Day, line_of, part_of, security_count, with_part}
use Rattle.day.specs.Step.{turned}
use Rattle.processor.specs.Held.{with_status}

-- a line's part put back where it was
pub part_back : {X : Type 0} (width line : ℕ) (xs : List X) → with_part width line (part_of width line xs) xs ≡ xs
part_back width line xs =
    ap (λ ys. take (line * width) xs ++ (take width (drop (line * width) xs) ++ ys)) (sym (drop-drop width (line * width) xs))
    ∙ ap (λ ys. take (line * width) xs ++ ys) (take-append-drop width (drop (line * width) xs))
    ∙ take-append-drop (line * width) xs

-- a turn that leaves the records
pub status_turn : (d : Day) (line : ℕ) (said : Reply) (status : LineStatus) → with_status d line status ≡ (turned d line (quiet said (record { status = status; records = (line_of line d).records }))).day
status_turn d line said status = λ i. record {
  market = d.market;
  statuses = set d.statuses line status;
  records = sym (part_back (security_count d.market) line d.records) i;
  sheets = d.sheets;
  serial = d.serial;
}

-- a turn that leaves the line
pub same_turn : (d : Day) (line : ℕ) (said : Reply) → d ≡ (turned d line (quiet said (line_of line d))).day
same_turn d line said = λ i. record {
  market = d.market;
  statuses = sym (set-get_or d.statuses line fresh_line) i;
  records = sym (part_back (security_count d.market) line d.records) i;
  sheets = d.sheets;
  serial = d.serial;
}
