use Rattle.std.proofs.Common.{◌≡◌, ◌∙◌, refl, sym, ap, false, true, List, ℕ, Some, is_some}
use Rattle.std.specs.Str.{bytes_eq}
use Rattle.std.specs.Map.{update}
use Rattle.std.specs.HashMap.{get_by}
use Rattle.std.proofs.lemmas.Map.Text.{hash_map_updates_str}
use Rattle.std.proofs.Math.Path.{fun_ext}
use Rattle.svc_draft.specs.Drafts.{source_of, layout_of}
use Rattle.svc_layout.specs.Sources.{Names}
use Rattle.svc_layout.specs.Labels.{with_name}
use Rattle.svc_draft.proofs.draft.Draft.find_name.Goals as goal

pub returns-in-None : goal.returns-in-None
unfolding with_name
returns-in-None c =
    let name = c.args.name.now in
    let d = layout_of c.args.self.now in
    let so_far = source_of c.args.self.now.source_read in
    let none : is_some (so_far.names name) ≡ false = ap is_some (sym c.in_ok-insert.ensures.old ∙ c.in-None.is) in
    let found : (q : List ℕ) → get_by (λ key. bytes_eq q key.now) c.insert.new.self ≡ update bytes_eq so_far.names name (Some c.args.spot) q =
    hash_map_updates_str name c.args.self.now.source_read.names c.insert.new.self (Some c.args.spot) c.in_ok-insert.ensures.updates in
    let names : (λ (q : List ℕ). get_by (λ key. bytes_eq q key.now) c.insert.new.self) ≡ update bytes_eq so_far.names name (Some c.args.spot) =
    fun_ext found in
    rw (c.requires, none) (ap (λ (ns : Names). Some (record d { known = false; places_known = d.places_known; source = record so_far { names = ns } })) (sym names))

pub returns-in-Some : goal.returns-in-Some
unfolding with_name
returns-in-Some c =
    let so_far = source_of c.args.self.now.source_read in
    let twice : is_some (so_far.names c.args.name.now) ≡ true = ap is_some (sym c.in_ok-insert.ensures.old ∙ c.in-Some.is) in
    rw (c.requires, twice) refl
