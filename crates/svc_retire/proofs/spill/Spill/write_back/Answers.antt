use Rattle.std.proofs.Common.{◌≡◌, ◌<◌, ◌+◌, ◌∙◌, ap, sym, subst, refl, arith, List, Option, None, ℕ, set, length, get_or, replicate, unwrap_or}
use Rattle.std.specs.Prelude.{map}
use Rattle.std.proofs.lemmas.List.{length-map}
use Rattle.svc_retire.specs.declared.spill.SpillPlace.{SpillPlace}
use Rattle.svc_retire.specs.declared.spill.SpillPlace.TheVariants.{Unlisted}
use Rattle.svc_retire.specs.Memory.{with_version}
use Rattle.svc_retire.specs.Spills.{spilled_version, place_at, IsListed}
use Rattle.svc_retire.proofs.Listing.{empty_list, empty_view, read_item}
use Rattle.svc_retire.proofs.Emptying.{IsEmptied, next_word, emptying_begins, emptying_steps, all_emptied, all_stored, view_at}
use Rattle.svc_retire.proofs.spill.Spill.write_back.Goals as goal

pub loop-k-init : goal.loop-k-init
loop-k-init c = record { words = refl; count = refl; emptied = emptying_begins c.self.inside.words.items c.self.inside.places.items c.args.backing.now }

pub index-requires : goal.index-requires
index-requires c =
    let inside = c.self.inside in
    let next = next_word inside.words.items inside.count c.loop-k.k inside.places.items c.loop-k.self-inside.places.items c.args.backing.now c.loop-k.backing c.args.self.now c.self.invariant c.loop-k.invariant.emptied c.loop-k-test.true c.self.view_is c.requires in
    let ok = c.loop-k.self-inside.words.ok in
    let same = ap (λ (words : List ℕ). length words) c.loop-k.invariant.words in
    let seated = next.seated in
    omega (arith, ok, same, seated)

pub index-requires-in-loop-k : goal.index-requires-in-loop-k
index-requires-in-loop-k c =
    let inside = c.self.inside in
    let next = next_word inside.words.items inside.count c.loop-k.k inside.places.items c.loop-k.self-inside.places.items c.args.backing.now c.loop-k.backing c.args.self.now c.self.invariant c.loop-k.invariant.emptied c.loop-k-test.true c.self.view_is c.requires in
    let ok = c.loop-k.self-inside.places.ok in
    let read = read_item inside.words.items c.loop-k.k c.index.result.now 0 (c.index.ensures ∙ ap (λ (words : List ℕ). get_or words c.loop-k.k c.index.result.now) c.loop-k.invariant.words) next.seated in
    let placed = next.placed in
    omega (arith, ok, read, placed)

pub index_mut-requires : goal.index_mut-requires
index_mut-requires c =
    let inside = c.self.inside in
    let next = next_word inside.words.items inside.count c.loop-k.k inside.places.items c.loop-k.self-inside.places.items c.args.backing.now c.loop-k.backing c.args.self.now c.self.invariant c.loop-k.invariant.emptied c.loop-k-test.true c.self.view_is c.requires in
    let ok = c.loop-k.self-inside.places.ok in
    let read = read_item inside.words.items c.loop-k.k c.index.result.now 0 (c.index.ensures ∙ ap (λ (words : List ℕ). get_or words c.loop-k.k c.index.result.now) c.loop-k.invariant.words) next.seated in
    let placed = next.placed in
    omega (arith, ok, read, placed)

pub store-requires : goal.store-requires
store-requires c =
    let inside = c.self.inside in
    let next = next_word inside.words.items inside.count c.loop-k.k inside.places.items c.loop-k.self-inside.places.items c.args.backing.now c.loop-k.backing c.args.self.now c.self.invariant c.loop-k.invariant.emptied c.loop-k-test.true c.self.view_is c.requires in
    let read = read_item inside.words.items c.loop-k.k c.index.result.now 0 (c.index.ensures ∙ ap (λ (words : List ℕ). get_or words c.loop-k.k c.index.result.now) c.loop-k.invariant.words) next.seated in
    let stored = next.stored in
    omega (arith, read, stored)

pub loop-k-preserved : goal.loop-k-preserved
loop-k-preserved c =
    let inside = c.self.inside in
    let at = c.index.result.now in
    let now = c.loop-k.self-inside.places.items in
    let memory : List ℕ = c.loop-k.backing in
    let next = next_word inside.words.items inside.count c.loop-k.k inside.places.items now c.args.backing.now memory c.args.self.now c.self.invariant c.loop-k.invariant.emptied c.loop-k-test.true c.self.view_is c.requires in
    let read : get_or inside.words.items c.loop-k.k 0 ≡ at = read_item inside.words.items c.loop-k.k at 0 (c.index.ensures ∙ ap (λ (words : List ℕ). get_or words c.loop-k.k at) c.loop-k.invariant.words) next.seated in
    let placed : at < length now = subst (λ n. n < length now) read next.placed in
    let stored : c.store.new.backing ≡ with_version memory at (spilled_version (place_at now at)) =
    c.store.ensures ∙ ap (λ (version : Option ℕ). with_version memory at version) c.version-version.ensures ∙ ap (λ (place : SpillPlace). with_version memory at (spilled_version place)) (sym (read_item now at c.index-in-loop-k.result.now Unlisted c.index-in-loop-k.ensures placed)) in
    record {
      words = c.loop-k.invariant.words;
      count = c.loop-k.invariant.count;
      emptied = subst (λ (m : List ℕ). IsEmptied inside.words.items (c.loop-k.k + 1) inside.places.items (set now at Unlisted) c.args.backing.now m) (sym stored)
          (emptying_steps inside.words.items c.loop-k.k at inside.places.items now c.args.backing.now memory read placed (subst (λ n. n < length memory) read next.stored) c.loop-k.invariant.emptied);
    }

-- all words of the list were taken up at the end
done : (c : goal.After-self-2-1) → IsEmptied c.self.inside.words.items c.self.inside.count c.self.inside.places.items c.loop-k.self-inside.places.items c.args.backing.now c.loop-k.backing
done c =
    let k : c.loop-k.k ≡ c.self.inside.count = omega arith in
    subst (λ n. IsEmptied c.self.inside.words.items n c.self.inside.places.items c.loop-k.self-inside.places.items c.args.backing.now c.loop-k.backing) k c.loop-k.invariant.emptied

pub invariant_of-self : goal.invariant_of-self
invariant_of-self c =
    let inside = c.self.inside in
    let emptied = all_emptied inside.words.items inside.count inside.places.items c.loop-k.self-inside.places.items c.args.backing.now c.loop-k.backing c.self.invariant (done c) in
    subst (λ (places : List SpillPlace). IsListed places c.loop-k.self-inside.words.items 0) (sym emptied)
    (empty_list c.loop-k.self-inside.words.items (length inside.places.items) (ap (λ (words : List ℕ). length words) c.loop-k.invariant.words ∙ c.self.invariant.room))

pub returns-clause-memory : goal.returns-clause-memory
returns-clause-memory c = λ word.
    let inside = c.self.inside in
    all_stored inside.words.items inside.count inside.places.items c.loop-k.self-inside.places.items c.args.backing.now c.loop-k.backing c.self.invariant (done c) word
    ∙ ap (λ (version : Option ℕ). unwrap_or version (get_or c.args.backing.now word 0)) (sym (view_at inside.places.items c.args.self.now c.self.view_is word))

pub returns-clause-empty : goal.returns-clause-empty
returns-clause-empty c =
    let inside = c.self.inside in
    let table : List (Option ℕ) = c.args.self.now in
    let emptied = all_emptied inside.words.items inside.count inside.places.items c.loop-k.self-inside.places.items c.args.backing.now c.loop-k.backing c.self.invariant (done c) in
    let size : length inside.places.items ≡ length table = sym (length-map inside.places.items spilled_version) ∙ ap (λ (t : List (Option ℕ)). length t) c.self.view_is in
    ap (λ (places : List SpillPlace). map spilled_version places) emptied ∙ empty_view (length inside.places.items) ∙ ap (λ n. replicate {A = Option ℕ} n None) size
