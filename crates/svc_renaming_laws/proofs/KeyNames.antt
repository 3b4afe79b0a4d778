-- Keys, of renamed units.
use Rattle.std.proofs.Common.{◌≡◌, List, map, option_map, sym, ap, ◌∙◌, subst}
use Rattle.svc_base.specs.declared.config.Config.{Config}
use Rattle.svc_image.specs.Image.{Image}
use Rattle.svc_bus_laws.specs.BusState.{BusState, state_of}
use Rattle.svc_bus_laws.proofs.SeenLaws.{own_state}
use Rattle.svc_machine_laws.specs.PlainMachine.{Task}
use Rattle.svc_machine_laws.specs.Standing.{Standing}
use Rattle.svc_machine_laws.specs.Reached.{IsReached}
use Rattle.svc_explore_laws.specs.Keys.{ageless_task, HaveOneKey}
use Rattle.svc_explore_laws.specs.Closed.{TellsKeys}
use Rattle.svc_renaming_laws.specs.Renamings.{Renaming, IsRenaming, undone, followed_by}
use Rattle.svc_renaming_laws.specs.Renamed.{renamed_task, renamed_standing}
use Rattle.svc_renaming_laws.specs.ClosedUpToNames.{HasNamedKey, TellsUpToNames}
use Rattle.svc_renaming_laws.proofs.Names.{map_both, undone_renames, followed_renames}
use Rattle.svc_renaming_laws.proofs.ReachedNames.{renamed_reached}
use Rattle.svc_renaming_laws.proofs.MoveNames.{standing_back, standing_followed}
use Rattle.svc_renaming_laws.proofs.FutureNames.{newest_renamed}

tasks_ageless : (r : Renaming) (ts : List Task) → map ageless_task (map (renamed_task r) ts) ≡ map (renamed_task r) (map ageless_task ts)
tasks_ageless r ts = map_both (renamed_task r) ageless_task ts ∙ sym (map_both ageless_task (renamed_task r) ts)

pub key_renamed : (img : Image) (config : Config) (r : Renaming) (s t : Standing) → IsRenaming config.units r → IsReached img config s → IsReached img config t
    → HaveOneKey s t → HaveOneKey (renamed_standing r s) (renamed_standing r t)
key_renamed img config r s t is reached also key =
    let b : BusState = state_of 0 s.lines in
    let c : BusState = state_of 0 t.lines in
    let mine : IsRenaming s.lines.caches r = subst (λ n. IsRenaming n r) (sym reached.lines.caches) is in
    let yours : IsRenaming t.lines.caches r = subst (λ n. IsRenaming n r) (sym also.lines.caches) is in
    record {
      commits = key.commits;
      tasks = tasks_ageless r s.plain.tasks ∙ ap (map (renamed_task r)) key.tasks ∙ sym (tasks_ageless r t.plain.tasks);
      lines = λ u a. key.lines (r.back u) a;
      newest = λ a.
          newest_renamed b s.lines (own_state 0 s.lines reached.lines.sound) a r mine
          ∙ ap (option_map r.there) (key.newest a)
          ∙ sym (newest_renamed c t.lines (own_state 0 t.lines also.lines.sound) a r yours);
      spilled = key.spilled;
    }

pub chosen_tell : {K : Type 0} (img : Image) (config : Config) (key : Standing → K) → TellsKeys img config key
    → TellsUpToNames img config (HasNamedKey config key)
chosen_tell img config key tells s t k reached also mine yours =
    let r : Renaming = mine.names in
    let o : Renaming = yours.names in
    let is : IsRenaming config.units r = mine.rename in
    let so : IsRenaming config.units o = yours.rename in
    let back : IsRenaming config.units (undone o) = undone_renames config.units o so in
    let near : IsReached img config (renamed_standing r s) = renamed_reached img config r s is reached in
    let far : IsReached img config (renamed_standing o t) = renamed_reached img config o t so also in
    let told : HaveOneKey (renamed_standing r s) (renamed_standing o t) =
    tells (renamed_standing r s) (renamed_standing o t) near far (sym mine.key_is ∙ yours.key_is) in
    let one : HaveOneKey (renamed_standing (undone o) (renamed_standing r s)) (renamed_standing (undone o) (renamed_standing o t)) =
    key_renamed img config (undone o) (renamed_standing r s) (renamed_standing o t) back near far told in
    let left : HaveOneKey (renamed_standing (followed_by r (undone o)) s) (renamed_standing (undone o) (renamed_standing o t)) =
    subst (λ z. HaveOneKey z (renamed_standing (undone o) (renamed_standing o t))) (standing_followed r (undone o) s) one in
    record {
      names = followed_by r (undone o);
      rename = followed_renames config.units r (undone o) is back;
      same = subst (HaveOneKey (renamed_standing (followed_by r (undone o)) s)) (standing_back o t so.returns) left;
    }
