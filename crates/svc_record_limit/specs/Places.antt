-- Where a reader of limited records stands in a text, as its bytes go by.
use Rattle.std.specs.Prelude.{ℕ, List, [], ◌∷◌, ◌+◌, ◌==◌, ◌||◌, Bool, true, false, nat_lt, if◌then◌else◌}
use Rattle.std.specs.Prelude.{Option, Some, None, option_map}
use Rattle.svc_record_limit.specs.Limit.{most_bytes}
use Rattle.svc_record_limit.specs.declared.gauge.Gauge.{Gauge}
use Rattle.svc_record_limit.specs.declared.limited.Limited.{Limited}
use Rattle.svc_record_limit.specs.declared.place.Place.{Place}
use Rattle.svc_record_limit.specs.declared.place.Place.TheVariants as place

-- after a byte that stands outside quotes and opens none
abbrev pub plain_after : ℕ → Place
plain_after b = if b == 44 then place.Field else if (b == 13) || (b == 10) then place.Between else place.Plain

-- after a byte with which a field may begin
abbrev pub start_after : ℕ → Place
start_after b = if b == 34 then place.Quoted else plain_after b

-- after a byte
abbrev pub place_after : Place → ℕ → Place
place_after place.Front b = if b == 239 then place.MarkBegun else start_after b
place_after place.MarkBegun b = if b == 187 then place.MarkHalf else plain_after b
place_after place.MarkHalf b = if b == 191 then place.Between else plain_after b
place_after place.Between b = start_after b
place_after place.Field b = start_after b
place_after place.Plain b = plain_after b
place_after place.Quoted b = if b == 34 then place.Quote else place.Quoted
place_after place.Quote b = if b == 34 then place.Quoted else plain_after b

-- the place is outside all records
abbrev pub is_outside : Place → Bool
is_outside place.Between = true
is_outside _ = false

-- after a byte, unless it makes its record too long
abbrev pub gauge_after : Gauge → ℕ → Option Gauge
gauge_after g b =
    if is_outside (place_after g.place b) then Some (record { place = place_after g.place b; size = 0 })
    else if nat_lt g.size most_bytes then Some (record { place = place_after g.place b; size = g.size + 1 })
    else None

-- what is read of a text from this place on, if the record there has had this many bytes
unfoldable pub passed_from : Place → ℕ → List ℕ → List ℕ
passed_from p size [] = []
passed_from p size (b ∷ rest) =
    if is_outside (place_after p b) then b ∷ passed_from (place_after p b) 0 rest
    else if nat_lt size most_bytes then b ∷ passed_from (place_after p b) (size + 1) rest
    else []

-- the same, by a gauge; nothing once the text is read no further
abbrev pub passed : Option Gauge → List ℕ → List ℕ
passed None text = []
passed (Some g) text = passed_from g.place g.size text

-- the bytes that a limited reader will give, as far as those of the reader below are known
abbrev pub known_through : {R : Type 0} → (R → Option (List ℕ)) → Limited R → Option (List ℕ)
known_through rem l = option_map (passed l.gauge) (rem l.reader)
