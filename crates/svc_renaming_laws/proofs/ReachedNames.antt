-- The renamed standing is one that events could lead to.
use Rattle.std.proofs.Common.{ℕ, ◌≡◌, ◌+◌, ◌≤◌, List, [], ◌∷◌, map, length, Option, refl, sym, ap, ◌∙◌, subst}
use Rattle.std.specs.List.{AllByRecursion}
use Rattle.svc_base.specs.declared.config.Config.{Config}
use Rattle.svc_image.specs.Image.{Image}
use Rattle.svc_core_laws.specs.State.{State}
use Rattle.svc_core_laws.specs.Program.{output, seq}
use Rattle.svc_core_laws.specs.Words.{program}
use Rattle.svc_machine_laws.specs.PlainMachine.{Task, Running, running, IsDue}
use Rattle.svc_machine_laws.specs.WholeMachine.{Machine}
use Rattle.svc_machine_laws.specs.Standing.{Standing}
use Rattle.svc_machine_laws.specs.Reached.{BeganAtEntry, IsCounted, words_waiting, IsReached}
use Rattle.svc_renaming_laws.specs.Renamings.{Renaming, IsRenaming}
use Rattle.svc_renaming_laws.specs.Renamed.{renamed_task, renamed_standing}
use Rattle.svc_renaming_laws.proofs.LineNames.{renamed_sound, same_map}
use Rattle.svc_renaming_laws.proofs.TaskNames.{renamed_run, runs_renamed, machine_renamed, tasks_units}

module _ (r : Renaming) where
  due_renamed : (due : Option ℕ) (ts : List Task) → IsDue due ts → IsDue due (map (renamed_task r) ts)
  due_renamed due [] h = tt
  due_renamed due (t ∷ ts) h = h

  entries_renamed : (img : Image) (ts : List Task) → AllByRecursion (BeganAtEntry img) ts → AllByRecursion (BeganAtEntry img) (map (renamed_task r) ts)
  entries_renamed img [] h = tt
  entries_renamed img (t ∷ ts) h = (h.0, entries_renamed img ts h.1)

  counted_renamed : (xs : List (Running State)) → AllByRecursion IsCounted xs → AllByRecursion IsCounted (map (renamed_run r) xs)
  counted_renamed [] h = tt
  counted_renamed (x ∷ xs) h = (h.0, counted_renamed xs h.1)

  waiting_renamed : {C : Type 0} (xs : List (Running C)) → words_waiting (map (renamed_run r) xs) ≡ words_waiting xs
  waiting_renamed [] = refl
  waiting_renamed (x ∷ xs) = ap (λ n. length (output x.run.log) + n) (waiting_renamed xs)

pub renamed_reached : (img : Image) (config : Config) (r : Renaming) (s : Standing) → IsRenaming config.units r → IsReached img config s → IsReached img config (renamed_standing r s)
renamed_reached img config r s is reached =
    let lines : IsRenaming s.lines.caches r = subst (λ n. IsRenaming n r) (sym reached.lines.caches) is in
    let runs : running (program img) (renamed_standing r s).plain ≡ map (renamed_run r) (running (program img) s.plain) =
    runs_renamed r (program img) (seq (program img) s.plain.commits).memory s.plain.tasks in
    record {
      due = due_renamed r (seq (program img) s.plain.commits).due s.plain.tasks reached.due;
      idle = λ h. ap (map (renamed_task r)) (reached.idle h);
      entries = entries_renamed r img s.plain.tasks reached.entries;
      counted = subst (AllByRecursion IsCounted) (sym runs) (counted_renamed r (running (program img) s.plain) reached.counted);
      commits_few = reached.commits_few;
      accepted_few = reached.accepted_few;
      outputs_few = subst (λ n. length (seq (program img) s.plain.commits).output + n ≤ s.plain.accepted) (sym (ap words_waiting runs ∙ waiting_renamed r (running (program img) s.plain))) reached.outputs_few;
      lines = record {
        sound = renamed_sound r s.lines lines reached.lines.sound;
        same_map = same_map r s.lines lines reached.lines.sound ∙ reached.lines.same_map ∙ sym (ap (λ (m : Machine State). m.versioned) (machine_renamed r (program img) s.plain));
        units = ap (map r.there) reached.lines.units ∙ sym (tasks_units r s.plain.tasks);
        caches = reached.lines.caches;
        sets = reached.lines.sets;
        ways = reached.lines.ways;
        words = reached.lines.words;
      };
    }
