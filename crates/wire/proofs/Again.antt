-- A trade report that is read and written again, and one that is written and read again.
use Rattle.std.proofs.Common.{◌≡◌, ℕ, ◌+◌, ◌<◌, ◌≤◌, Bool, true, false, cond, ◌&&◌, eqb, leb, List, [], ◌∷◌, ◌++◌, length, get_or, take, drop, Some, None, Ok, Err, codes, Option, sym, refl, ap, ◌∙◌, arith, length-append}
use Rattle.std.specs.List.{AllByRecursion as All}
use Rattle.std.proofs.lemmas.Bool.{and_parts, eqb-true}
use Rattle.std.proofs.lemmas.List.{append_assoc, append-nil, take_all, take_at}
use Rattle.wire.specs.Header.{asked_of, first_failing, unless}
use Rattle.wire.specs.declared.header.HeaderRow.{HeaderRow}
use Rattle.wire.specs.declared.header.HeaderRow.TheVariants.{Version, Kind, Length}
use Rattle.wire.specs.Number.{bytes_of, value_of}
use Rattle.wire.specs.Part.{part}
use Rattle.wire.specs.TradeReport.{fields_of, frame_of, header_bytes, report_in, trade_bytes, TypedHeader, TypedTrade}
use Rattle.wire.specs.declared.trade_report.TradeReport.{TradeReport}
use Rattle.wire.proofs.Fields.{Left, field_at, number_at, byte_at, past_field, Joined, join, number_again, byte_again}
use Rattle.wire.proofs.Numbers.{length-bytes}
use Rattle.text.proofs.Overwriting.{overwritten_more}
use Rattle.text.specs.Buffer.{overwritten}

header_again : (frame : List ℕ) → length frame ≡ 72 → All (λ b. b < 256) frame → codes "1TE" ≡ part 0 3 frame → header_bytes (fields_of frame) ≡ part 0 29 frame
header_again frame long bytes head =
    let p3 : Joined frame 0 3 (codes "1TE") = record { is = head } in
    let p5 = join 5 (part 3 5 frame) p3 (omega arith) (omega arith) refl in
    let p13 = join 13 _ p5 (omega arith) (omega arith) (number_again frame 5 13 8 (omega arith) refl (omega arith) bytes) in
    let p21 = join 21 _ p13 (omega arith) (omega arith) (number_again frame 13 21 8 (omega arith) refl (omega arith) bytes) in
    (join 29 _ p21 (omega arith) (omega arith) (number_again frame 21 29 8 (omega arith) refl (omega arith) bytes)).is

trade_again : (frame : List ℕ) → length frame ≡ 72 → All (λ b. b < 256) frame → trade_bytes (fields_of frame) ≡ part 29 72 frame
trade_again frame long bytes =
    let p37 : Joined frame 29 37 (bytes_of 8 (value_of (part 29 37 frame))) = record { is = number_again frame 29 37 8 (omega arith) refl (omega arith) bytes } in
    let p48 = join 48 (part 37 48 frame) p37 (omega arith) (omega arith) refl in
    let p52 = join 52 _ p48 (omega arith) (omega arith) (number_again frame 48 52 4 (omega arith) refl (omega arith) bytes) in
    let p53 = join 53 _ p52 (omega arith) (omega arith) (byte_again frame 52 (omega arith)) in
    let p57 = join 57 (part 53 57 frame) p53 (omega arith) (omega arith) refl in
    let p59 = join 59 _ p57 (omega arith) (omega arith) (number_again frame 57 59 2 (omega arith) refl (omega arith) bytes) in
    let p60 = join 60 _ p59 (omega arith) (omega arith) (byte_again frame 59 (omega arith)) in
    let p68 = join 68 _ p60 (omega arith) (omega arith) (number_again frame 60 68 8 (omega arith) refl (omega arith) bytes) in
    (join 72 _ p68 (omega arith) (omega arith) (number_again frame 68 72 4 (omega arith) refl (omega arith) bytes)).is

parts_again : (frame : List ℕ) → length frame ≡ 72 → All (λ b. b < 256) frame → codes "1TE" ≡ part 0 3 frame → frame_of (fields_of frame) ≡ frame
parts_again frame long bytes head =
    let header : Joined frame 0 29 (header_bytes (fields_of frame)) = record { is = header_again frame long bytes head } in
    (join 72 (trade_bytes (fields_of frame)) header (omega arith) (omega arith) (trade_again frame long bytes)).is ∙ take_all 72 frame (omega arith)

-- the bytes of a report, each field before all that follow it
abbrev in_order : TradeReport → List ℕ
in_order r =
    codes "1TE" ++ (r.originator ++ (bytes_of 8 r.timestamp1 ++ (bytes_of 8 r.feed_sequence
    ++ (bytes_of 8 r.participant_token ++ (bytes_of 8 r.timestamp2 ++ (r.symbol ++ (bytes_of 4 r.trade_id
    ++ ((r.exempt_flag ∷ []) ++ (r.condition ++ (bytes_of 2 r.seller_days ++ ((r.side ∷ [])
    ++ (bytes_of 8 r.price ++ (bytes_of 4 r.volume ++ [])))))))))))))

-- fourteen fields, five of them the header
regroup : (a b c d e f g h i j k l m n : List ℕ) → (a ++ b ++ c ++ d ++ e) ++ (f ++ g ++ h ++ i ++ j ++ k ++ l ++ m ++ n) ≡ a ++ (b ++ (c ++ (d ++ (e ++ (f ++ (g ++ (h ++ (i ++ (j ++ (k ++ (l ++ (m ++ (n ++ [])))))))))))))
regroup a b c d e f g h i j k l m n = simp (append_assoc, append-nil)

in_order_lem : (r : TradeReport) → frame_of r ≡ in_order r
in_order_lem r =
    regroup (codes "1TE") r.originator (bytes_of 8 r.timestamp1) (bytes_of 8 r.feed_sequence) (bytes_of 8 r.participant_token)
    (bytes_of 8 r.timestamp2) r.symbol (bytes_of 4 r.trade_id) (r.exempt_flag ∷ []) r.condition (bytes_of 2 r.seller_days) (r.side ∷ []) (bytes_of 8 r.price) (bytes_of 4 r.volume)

header_lengths : (a b c d e : List ℕ) → length (a ++ b ++ c ++ d ++ e) ≡ length a + length b + length c + length d + length e
header_lengths a b c d e = simp length-append

header_long : (r : TradeReport) → TypedHeader r → length (header_bytes r) ≡ 29
header_long r h =
    header_lengths (codes "1TE") r.originator (bytes_of 8 r.timestamp1) (bytes_of 8 r.feed_sequence) (bytes_of 8 r.participant_token)
    ∙ simp length-bytes (omega arith)

trade_lengths : (a b c d e f g h i : List ℕ) → length (a ++ b ++ c ++ d ++ e ++ f ++ g ++ h ++ i) ≡ length a + length b + length c + length d + length e + length f + length g + length h + length i
trade_lengths a b c d e f g h i = simp length-append

trade_long : (r : TradeReport) → TypedTrade r → length (trade_bytes r) ≡ 43
trade_long r t =
    trade_lengths (bytes_of 8 r.timestamp2) r.symbol (bytes_of 4 r.trade_id) (r.exempt_flag ∷ []) r.condition (bytes_of 2 r.seller_days) (r.side ∷ []) (bytes_of 8 r.price) (bytes_of 4 r.volume)
    ∙ simp length-bytes (omega arith)

frame_long : (r : TradeReport) → TypedHeader r → TypedTrade r → length (frame_of r) ≡ 72
frame_long r h t = length-append (header_bytes r) (trade_bytes r) ∙ omega (arith, header_long r h, trade_long r t)

pub fields_again : (r : TradeReport) → TypedHeader r → TypedTrade r → fields_of (frame_of r) ≡ r
fields_again r h t =
    let l0 : Left (frame_of r) 0 (in_order r) = record { is = in_order_lem r } in
    let l3 = past_field 3 (codes "1TE") _ l0 refl in
    let l5 = past_field 2 r.originator _ l3 h.originator in
    let l13 = past_field 8 (bytes_of 8 r.timestamp1) _ l5 (length-bytes 8 r.timestamp1) in
    let l21 = past_field 8 (bytes_of 8 r.feed_sequence) _ l13 (length-bytes 8 r.feed_sequence) in
    let l29 = past_field 8 (bytes_of 8 r.participant_token) _ l21 (length-bytes 8 r.participant_token) in
    let l37 = past_field 8 (bytes_of 8 r.timestamp2) _ l29 (length-bytes 8 r.timestamp2) in
    let l48 = past_field 11 r.symbol _ l37 t.symbol in
    let l52 = past_field 4 (bytes_of 4 r.trade_id) _ l48 (length-bytes 4 r.trade_id) in
    let l53 = past_field 1 (r.exempt_flag ∷ []) _ l52 refl in
    let l57 = past_field 4 r.condition _ l53 t.condition in
    let l59 = past_field 2 (bytes_of 2 r.seller_days) _ l57 (length-bytes 2 r.seller_days) in
    let l60 = past_field 1 (r.side ∷ []) _ l59 refl in
    let l68 = past_field 8 (bytes_of 8 r.price) _ l60 (length-bytes 8 r.price) in
    λ i. record {
      originator = field_at 2 r.originator _ l3 h.originator i;
      timestamp1 = number_at 8 r.timestamp1 _ l5 h.timestamp1 i;
      feed_sequence = number_at 8 r.feed_sequence _ l13 h.feed_sequence i;
      participant_token = number_at 8 r.participant_token _ l21 h.participant_token i;
      timestamp2 = number_at 8 r.timestamp2 _ l29 t.timestamp2 i;
      symbol = field_at 11 r.symbol _ l37 t.symbol i;
      trade_id = number_at 4 r.trade_id _ l48 t.trade_id i;
      exempt_flag = byte_at r.exempt_flag _ l52 i;
      condition = field_at 4 r.condition _ l53 t.condition i;
      seller_days = number_at 2 r.seller_days _ l57 t.seller_days i;
      side = byte_at r.side _ l59 i;
      price = number_at 8 r.price _ l60 t.price i;
      volume = number_at 4 r.volume _ l68 t.volume i;
    }

-- a written report is a frame of its kind, and reads as it was
pub report_again : (r : TradeReport) (rest : List ℕ) → TypedHeader r → TypedTrade r → report_in (take 72 (frame_of r ++ rest)) ≡ Ok r
report_again r rest h t =
    let long = frame_long r h t in
    let asked : ℕ → Option HeaderRow = λ n. cond (leb 3 n && true) (cond (eqb n 72) None (Some Length)) (Some Version) in
    ap report_in (take_at (frame_of r) rest 72 long)
    ∙ ap (λ n. unless (asked n) (fields_of (frame_of r))) long
    ∙ ap (λ fields. Ok fields) (fields_again r h t)

-- the header and then the trade, written over a buffer
pub whole_written : (r : TradeReport) (buffer between after : List ℕ) → TypedHeader r → TypedTrade r → between ≡ overwritten buffer 0 (header_bytes r) → after ≡ overwritten between 29 (trade_bytes r) → after ≡ frame_of r ++ drop 72 buffer
whole_written r buffer between after h t first second =
    let head : 29 ≡ 0 + length (header_bytes r) = omega (arith, header_long r h) in
    let long : 0 + length (frame_of r) ≡ 72 = omega (arith, frame_long r h t) in
    second
    ∙ overwritten_more buffer (header_bytes r) (trade_bytes r) between 0 29 (omega arith) head first
    ∙ ap (λ k. frame_of r ++ drop k buffer) long

-- a row that fails is told of the fields as it is of the header
pub fails_alike : {A B : Type 0} (failing : Option HeaderRow) (a : A) (b : B) (row : HeaderRow) → Err row ≡ unless failing a → Err row ≡ unless failing b
fails_alike None a b row e = let z : ◌≡◌ {A = ℕ} 0 1 = cc in absurd (omega arith)
fails_alike (Some r) a b row e = cc

-- where no row fails the frame is of its kind
pub none_failing : {A : Type 0} (failing : Option HeaderRow) (a : A) → Ok a ≡ unless failing a → failing ≡ None
none_failing None a e = refl
none_failing (Some r) a e = let z : ◌≡◌ {A = ℕ} 0 1 = cc in absurd (omega arith)

all_hold : (x y z : Bool) → cond x (cond y (cond z None (Some Length)) (Some Kind)) (Some Version) ≡ None → (x ≡ true) × (y ≡ true) × (z ≡ true)
all_hold true true true e = (refl, refl, refl)
all_hold true true false e = let z : ◌≡◌ {A = ℕ} 0 1 = cc in absurd (omega arith)
all_hold true false z e = let z : ◌≡◌ {A = ℕ} 0 1 = cc in absurd (omega arith)
all_hold false y z e = let z : ◌≡◌ {A = ℕ} 0 1 = cc in absurd (omega arith)

head_read : (frame : List ℕ) → 3 ≤ length frame → get_or frame 0 0 ≡ 49 → get_or frame 1 0 ≡ 84 → get_or frame 2 0 ≡ 69 → codes "1TE" ≡ part 0 3 frame
head_read [] long x y z = absurd (omega arith)
head_read (a ∷ []) long x y z = absurd (omega arith)
head_read (a ∷ b ∷ []) long x y z = absurd (omega arith)
head_read (a ∷ b ∷ c ∷ rest) long x y z = ap (λ v. v ∷ 84 ∷ 69 ∷ []) (sym x) ∙ ap (λ v. a ∷ v ∷ 69 ∷ []) (sym y) ∙ ap (λ v. a ∷ b ∷ v ∷ []) (sym z)

-- a frame whose header's rows hold is written as it was read
pub frame_again : (frame : List ℕ) → first_failing (asked_of (codes "TE") 72 frame) ≡ None → All (λ b. b < 256) frame → frame_of (fields_of frame) ≡ frame
frame_again frame none bytes =
    let rows = all_hold (leb 3 (length frame) && eqb (get_or frame 0 0) 49) (eqb (get_or frame 1 0) 84 && eqb (get_or frame 2 0) 69) (eqb (length frame) 72) none in
    let version = and_parts (leb 3 (length frame)) (eqb (get_or frame 0 0) 49) rows.0 in
    let letters = and_parts (eqb (get_or frame 1 0) 84) (eqb (get_or frame 2 0) 69) rows.1 in
    let long : length frame ≡ 72 = eqb-true (length frame) 72 rows.2 in
    let head = head_read frame (omega arith) (eqb-true _ _ version.1) (eqb-true _ _ letters.0) (eqb-true _ _ letters.1) in
    parts_again frame long bytes head
