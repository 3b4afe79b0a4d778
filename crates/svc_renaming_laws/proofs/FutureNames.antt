-- Standings with the same future, of renamed units.
use Rattle.std.proofs.Common.{ℕ, ◌≡◌, ◌<◌, Bool, true, false, not, ◌&&◌, ◌||◌, List, map, Option, Some, None, inl, inr, refl, sym, ap, ◌∙◌, subst, option_map, true≢false}
use Rattle.std.proofs.lemmas.Bool.{cases_eq, and_parts}
use Rattle.svc_base.specs.declared.config.Config.{Config}
use Rattle.svc_image.specs.Image.{Image}
use Rattle.svc_core_laws.specs.State.{State}
use Rattle.svc_core_laws.specs.Program.{Program}
use Rattle.svc_core_laws.specs.Words.{program}
use Rattle.svc_bus_laws.specs.LineTable.{LineTable}
use Rattle.svc_bus_laws.specs.BusLine.{BusLine, is_committed_dirty_line, is_dirty_line}
use Rattle.svc_bus_laws.specs.BusState.{BusState, Agrees}
use Rattle.svc_bus_laws.specs.BusView.{is_newest_line, bus_newest}
use Rattle.svc_bus_laws.proofs.Searches.{all_true}
use Rattle.svc_bus_laws.proofs.OrderProofs.{order_total}
use Rattle.svc_machine_laws.specs.WholeMachine.{Seat, Machine, machine_of}
use Rattle.svc_machine_laws.specs.Standing.{Standing}
use Rattle.svc_machine_laws.specs.Reached.{IsReached}
use Rattle.svc_explore_laws.specs.Twins.{AreTwins}
use Rattle.svc_explore_laws.specs.Futures.{ageless_seat, ageless, HaveOneFuture}
use Rattle.svc_renaming_laws.specs.Renamings.{Renaming, IsRenaming}
use Rattle.svc_renaming_laws.specs.RenamedLines.{renamed_lines}
use Rattle.svc_renaming_laws.specs.Renamed.{renamed_standing}
use Rattle.svc_renaming_laws.proofs.Names.{all_renamed, map_both}
use Rattle.svc_renaming_laws.proofs.LeastNames.{least_renamed}
use Rattle.svc_renaming_laws.proofs.LineNames.{renamed_sound, same_map}
use Rattle.svc_renaming_laws.proofs.TaskNames.{renamed_seat, renamed_machine, machine_renamed}

-- a bus whose units are renamed
abbrev pub renamed_bus : Renaming → BusState → BusState
renamed_bus r b = record b { lines = λ u a. b.lines (r.back u) a; is_older = λ a u v. b.is_older a (r.back u) (r.back v); units = map r.there b.units }

dirty_of : (l : Option BusLine) → is_committed_dirty_line l ≡ true → is_dirty_line l ≡ true
dirty_of None e = e
dirty_of (Some l) e = (and_parts l.commit l.store e).1

-- a test that some newest line puts to another one
told : (x y : Bool) → x ≡ true → (not x || not y) ≡ true → y ≡ false
told true true e f = absurd (true≢false (sym f))
told true false e f = refl
told false y e f = absurd (true≢false (sym e))

module _ (b : BusState) (t : LineTable) (agrees : Agrees b t) (a : ℕ) where
  one_newest : (u v : ℕ) → u < b.caches → v < b.caches → is_newest_line b a u ≡ true → is_newest_line b a v ≡ true → u ≡ v
  one_newest u v h k e f = elim (cases_eq u v) [
    | inl same ↦ same
    | inr ne ↦
        let first = and_parts (is_committed_dirty_line (b.lines u a)) _ e in
        let second = and_parts (is_committed_dirty_line (b.lines v a)) _ f in
        let mine : b.is_older a u v ≡ false = told (is_committed_dirty_line (b.lines v a)) (b.is_older a u v) second.0 (all_true b.caches _ first.1 v k) in
        let yours : b.is_older a v u ≡ false = told (is_committed_dirty_line (b.lines u a)) (b.is_older a v u) first.0 (all_true b.caches _ second.1 u h) in
        elim (order_total b t a u v agrees ne (dirty_of (b.lines u a) first.0) (dirty_of (b.lines v a) second.0)) [
          | inl older ↦ absurd (true≢false (sym older ∙ mine))
          | inr older ↦ absurd (true≢false (sym older ∙ yours))
        ]
  ]

  pub newest_renamed : (r : Renaming) → IsRenaming b.caches r → bus_newest (renamed_bus r b) a ≡ option_map r.there (bus_newest b a)
  newest_renamed r is = least_renamed r b.caches is (is_newest_line (renamed_bus r b) a) (is_newest_line b a)
      (λ u. ap (λ x. is_committed_dirty_line (b.lines (r.back u) a) && x) (all_renamed r b.caches is (λ v. not (is_committed_dirty_line (b.lines v a)) || not (b.is_older a (r.back u) v))))
      one_newest

agrees_renamed : (r : Renaming) (b : BusState) (t : LineTable) → IsRenaming t.caches r → Agrees b t → Agrees (renamed_bus r b) (renamed_lines r t)
agrees_renamed r b t is agrees = record {
  sound = renamed_sound r t is agrees.sound;
  caches = agrees.caches;
  sets = agrees.sets;
  ways = agrees.ways;
  words = agrees.words;
  lines = λ u a. agrees.lines (r.back u) a;
  order = λ a u v. agrees.order a (r.back u) (r.back v);
  spill = agrees.spill;
  backing = agrees.backing;
  commits = agrees.commits;
  units = ap (map r.there) agrees.units;
}

twins_renamed : (r : Renaming) (s t : LineTable) → IsRenaming s.caches r → IsRenaming t.caches r → AreTwins s t → AreTwins (renamed_lines r s) (renamed_lines r t)
twins_renamed r s t is also twins =
    let b : BusState = twins.bus in
    let c : BusState = twins.other in
    let mine : IsRenaming b.caches r = subst (λ n. IsRenaming n r) (sym twins.first.caches) is in
    let yours : IsRenaming c.caches r = subst (λ n. IsRenaming n r) (sym twins.second.caches) also in
    record {
      bus = renamed_bus r b;
      other = renamed_bus r c;
      first = agrees_renamed r b s is twins.first;
      second = agrees_renamed r c t also twins.second;
      bits = record {
        caches = twins.bits.caches;
        sets = twins.bits.sets;
        ways = twins.bits.ways;
        words = twins.bits.words;
        units = ap (map r.there) twins.bits.units;
        lines = λ u a. twins.bits.lines (r.back u) a;
        newest = λ a. newest_renamed b s twins.first a r mine ∙ ap (option_map r.there) (twins.bits.newest a) ∙ sym (newest_renamed c t twins.second a r yours);
        spilled = twins.bits.spilled;
      };
      same_map = same_map r s is twins.first.sound ∙ twins.same_map ∙ sym (same_map r t also twins.second.sound);
    }

-- names and epochs have nothing to do with one another
ageless_renamed : {C : Type 0} (r : Renaming) (m : Machine C) → ageless (renamed_machine r m) ≡ renamed_machine r (ageless m)
ageless_renamed {C} r m =
    ap (λ (seats : List (Seat C)). record m { seats = seats; accepted = 0; epoch = 0 }) (map_both (renamed_seat r) ageless_seat m.seats ∙ sym (map_both ageless_seat (renamed_seat r) m.seats))

pub future_renamed : (img : Image) (config : Config) (r : Renaming) (s t : Standing) → IsRenaming config.units r → IsReached img config s → IsReached img config t
    → HaveOneFuture img s t → HaveOneFuture img (renamed_standing r s) (renamed_standing r t)
future_renamed img config r s t is reached also same =
    let p : Program State = program img in
    record {
      machine =
          ap ageless (machine_renamed r p s.plain) ∙ ageless_renamed r (machine_of p s.plain)
          ∙ ap (renamed_machine r) same.machine
          ∙ sym (ageless_renamed r (machine_of p t.plain)) ∙ sym (ap ageless (machine_renamed r p t.plain));
      lines = twins_renamed r s.lines t.lines
          (subst (λ n. IsRenaming n r) (sym reached.lines.caches) is) (subst (λ n. IsRenaming n r) (sym also.lines.caches) is) same.lines;
    }
