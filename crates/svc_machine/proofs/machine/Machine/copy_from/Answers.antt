use Rattle.std.proofs.Common.{◌≡◌, ◌∙◌, ap, ap₂, refl, map, length, List, ℕ, arith}
use Rattle.std.specs.Prelude.{vec_capacity}
use Rattle.svc_base.specs.declared.config.Config.{Config}
use Rattle.svc_image.specs.Image.{Image}
use Rattle.svc_bus.specs.Value.{BusValue}
use Rattle.svc_machine.specs.declared.seat.Seat.{Seat}
use Rattle.svc_machine.specs.Kept.{Parts, whole_seat}
use Rattle.svc_machine.specs.Seats.{plain_of}
use Rattle.svc_machine.specs.Value.{MachineValue}
use Rattle.svc_machine.proofs.Copying.{kept_new, of_one_image, one_size, same_entries, seats_fit, words_fit}
use Rattle.svc_machine.proofs.Keeping.{parts_of}
use Rattle.svc_machine.proofs.machine.Machine.copy_from.Goals as goal

pub copy_from-requires : goal.copy_from-requires
copy_from-requires c =
    let same = of_one_image c.self.view_is c.other.view_is c.requires.image c.requires.config in
    let m : Parts = parts_of c.self.inside in
    let o : Parts = parts_of c.other.inside in
    one_size m c.self.invariant o c.other.invariant same.image same.config

pub copy_from-requires-2 : goal.copy_from-requires-2
copy_from-requires-2 c =
    let same = of_one_image c.self.view_is c.other.view_is c.requires.image c.requires.config in
    let m : Parts = parts_of c.self.inside in
    let o : Parts = parts_of c.other.inside in
    same_entries m c.self.invariant o c.other.invariant same.image same.config

pub copy_seats-requires : goal.copy_seats-requires
copy_seats-requires c =
    let same = of_one_image c.self.view_is c.other.view_is c.requires.image c.requires.config in
    let m : Parts = parts_of c.self.inside in
    let o : Parts = parts_of c.other.inside in
    let fit = seats_fit m c.self.invariant o c.other.invariant same.image same.config c.other.inside.seats.items refl in
    let n = ap (λ (l : List Seat). length l) c.deref.ensures.value in
    omega (arith, fit, n)

pub copy_words-requires : goal.copy_words-requires
copy_words-requires c =
    let same = of_one_image c.self.view_is c.other.view_is c.requires.image c.requires.config in
    let m : Parts = parts_of c.self.inside in
    let o : Parts = parts_of c.other.inside in
    let fit = words_fit m c.self.invariant o c.other.invariant same.image same.config in
    let n = ap (λ (l : List ℕ). length l) c.deref-2.ensures.value in
    omega (arith, fit, n)

pub invariant_of-self : goal.invariant_of-self
invariant_of-self c =
    let same = of_one_image c.self.view_is c.other.view_is c.requires.image c.requires.config in
    let m : Parts = parts_of c.self.inside in
    let o : Parts = parts_of c.other.inside in
    let seats : c.copy_seats.new.seats.items ≡ c.other.inside.seats.items = c.copy_seats.ensures.seats ∙ c.deref.ensures.value in
    let words : c.copy_words.new.words.items ≡ c.other.inside.output.items = c.copy_words.ensures.words ∙ c.deref-2.ensures.value in
    kept_new m c.self.invariant o c.other.invariant same.image same.config
    (plain_of c.other.inside.commits c.other.inside.accepted c.other.inside.epoch c.copy_seats.new.seats.items)
    (ap (λ (l : List Seat). plain_of c.other.inside.commits c.other.inside.accepted c.other.inside.epoch l) seats)
    c.copy_from.new.self c.copy_from.ensures
    c.copy_from-2.new.self c.copy_from-2.ensures
    (map whole_seat c.copy_seats.new.seats.items) (ap (λ (l : List Seat). map whole_seat l) seats)
    c.copy_words.new.words.items words
    (vec_capacity c.copy_seats.new.seats) (vec_capacity c.copy_words.new.words) c.copy_seats.ensures.room c.copy_words.ensures.room

pub returns : goal.returns
returns c =
    let same = of_one_image c.self.view_is c.other.view_is c.requires.image c.requires.config in
    let m : Parts = parts_of c.self.inside in
    let o : Parts = parts_of c.other.inside in
    let seats : c.copy_seats.new.seats.items ≡ c.other.inside.seats.items = c.copy_seats.ensures.seats ∙ c.deref.ensures.value in
    ap₂ {C = MachineValue} (λ (i : Image) (g : Config). record { image = i; config = g; plain = plain_of c.other.inside.commits c.other.inside.accepted c.other.inside.epoch c.copy_seats.new.seats.items; bus = c.copy_from.new.self }) same.image same.config
    ∙ ap₂ {C = MachineValue} (λ (l : List Seat) (b : BusValue). record { image = c.other.inside.image; config = c.other.inside.config; plain = plain_of c.other.inside.commits c.other.inside.accepted c.other.inside.epoch l; bus = b }) seats c.copy_from.ensures
    ∙ c.other.view_is
