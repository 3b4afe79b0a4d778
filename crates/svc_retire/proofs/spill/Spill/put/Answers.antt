use Rattle.std.proofs.Common.{◌≡◌, ◌∙◌, ap, sym, subst, refl, arith, List, Option, Some, ℕ, set}
use Rattle.std.specs.Prelude.{map}
use Rattle.std.proofs.lemmas.List.{map-set}
use Rattle.svc_retire.specs.declared.spill.SpillPlace.TheVariants.{Spilled}
use Rattle.svc_retire.specs.declared.spill.Spill.TheInside.{Inside}
use Rattle.svc_retire.specs.Spills.{spilled_version, IsListed}
use Rattle.svc_retire.proofs.Listing.{kept_list, longer_list, list_room, place_read, place_listed, places_known}
use Rattle.svc_retire.proofs.spill.Spill.put.Goals as goal
use Rattle.svc_retire.proofs.spill.Spill.put.Goals.{then-not-is_listed, else-not-is_listed}

pub index_mut-requires : goal.index_mut-requires
index_mut-requires c =
    let places = c.self.inside.places.items in
    let word = c.args.word.0 in
    let h = places_known places c.args.self.now word c.self.view_is c.requires in
    let room = list_room places c.self.inside.words.items c.self.inside.count word h (place_read places word c.index.result.now c.index.ensures h (c.if-not-is_listed.ensures)) c.self.invariant in
    let ok = c.self.inside.words.ok in
    omega (arith, room, ok)

pub overflow_add-self : goal.overflow_add-self
overflow_add-self c =
    let places = c.self.inside.places.items in
    let word = c.args.word.0 in
    let h = places_known places c.args.self.now word c.self.view_is c.requires in
    let room = list_room places c.self.inside.words.items c.self.inside.count word h (place_read places word c.index.result.now c.index.ensures h (c.if-not-is_listed.ensures)) c.self.invariant in
    omega arith

pub invariant_of-self : goal.invariant_of-self
invariant_of-self c =
    let places = c.self.inside.places.items in
    let words = c.self.inside.words.items in
    let count = c.self.inside.count in
    let word = c.args.word.0 in
    let h = places_known places c.args.self.now word c.self.view_is c.requires in
    let P : Inside → Type 0 = λ s. IsListed (set s.places.items word (Spilled c.args.value)) s.words.items s.count in
    elim c.if-not-is_listed.branch [
      | then-not-is_listed w ↦ subst P (sym w.self-inside-is) (longer_list places words count word (Spilled c.args.value) h (place_read places word c.index.result.now c.index.ensures h (w.if-not-is_listed.ensures)) refl c.self.invariant)
      | else-not-is_listed w ↦ subst P (sym w.self-inside-is) (kept_list places words count word (Spilled c.args.value) h (place_listed places word c.index.result.now c.index.ensures h (w.if-not-is_listed.ensures)) c.self.invariant)
    ]

pub returns : goal.returns
returns c =
    let places = c.self.inside.places.items in
    let word = c.args.word.0 in
    let table : List (Option ℕ) = c.args.self.now in
    let P : Inside → Type 0 = λ s. map spilled_version (set s.places.items word (Spilled c.args.value)) ≡ set table word (Some c.args.value) in
    let put = map-set spilled_version places word (Spilled c.args.value) ∙ ap (λ (t : List (Option ℕ)). set t word (Some c.args.value)) c.self.view_is in
    elim c.if-not-is_listed.branch [
      | then-not-is_listed w ↦ subst P (sym w.self-inside-is) put
      | else-not-is_listed w ↦ subst P (sym w.self-inside-is) put
    ]
