use Rattle.std.proofs.Common.{◌≡◌, ◌<◌, refl, sym, subst, true, Some}
use Rattle.svc_line.specs.Bits.{bits_of, is_active}
use Rattle.svc_vcl.specs.Described.{line_with}
use Rattle.svc_bus.specs.State.{bus_state}
use Rattle.svc_bus.proofs.Hitting.{found_is, hit_kept, hit_served, hit_value}
use Rattle.svc_bus.proofs.bus.Bus.read.Goals as goal

held : (c : goal.After-self-1) → (bus_state c.args.self.now).lines c.args.unit.0 c.args.word.0 ≡ Some (line_with c.in-Some.line.value (bits_of c.in-Some.line.bits))
unfolding bus_state
held c = found_is c.args.self.now.caches c.args.word.0 c.args.unit.0 c.in-Some.line c.in-Some.ensures.line c.in-Some.ensures.valid

active : (c : goal.After-self-1) → is_active (bits_of c.in-Some.line.bits) ≡ true
active c = sym c.if-is_active.ensures

pub returns-in-Some-clause-value : goal.returns-in-Some-clause-value
returns-in-Some-clause-value c = λ t place runs. hit_value (bus_state c.args.self.now) t place c.args.word.0 c.args.unit.0 runs.agrees runs.within runs.unit_is c.in-Some.line (held c) (active c) (subst (λ n. c.args.word.0 < n) runs.agrees.words c.requires.in_memory)

pub returns-in-Some-clause-served : goal.returns-in-Some-clause-served
returns-in-Some-clause-served c = λ t place runs. hit_served (bus_state c.args.self.now) t place c.args.word.0 c.args.unit.0 runs.agrees runs.within runs.unit_is c.in-Some.line (held c) (active c) (subst (λ n. c.args.word.0 < n) runs.agrees.words c.requires.in_memory)

pub returns-in-Some-clause-table : goal.returns-in-Some-clause-table
unfolding bus_state
returns-in-Some-clause-table c = λ t place runs. hit_kept (bus_state c.args.self.now) t place c.args.word.0 c.args.unit.0 runs.agrees runs.within runs.unit_is c.in-Some.line (held c) (active c) (subst (λ n. c.args.word.0 < n) runs.agrees.words c.requires.in_memory) _ (rw (← c.self.view_is) (record { caches = refl; sets = refl; ways = refl; words = refl; lines = λ u a. refl; order = λ a u v. refl; spill = λ a. refl; backing = λ a. refl; commits = refl; units = refl }))
