-- Whole lists of events.
use Rattle.std.proofs.Common.{ℕ, ◌≡◌, List, [], ◌∷◌, ◌++◌, refl, sym, ap, ◌∙◌, subst, zero-add}
use Rattle.std.specs.List.{AllByRecursion}
use Rattle.svc_base.specs.declared.config.Config.{Config}
use Rattle.svc_image.specs.Image.{Image}
use Rattle.svc_machine_laws.specs.PlainMachine.{Plain}
use Rattle.svc_machine_laws.specs.Events.{Event, IsEvent}
use Rattle.svc_machine_laws.specs.Headline.{IsSequential}
use Rattle.svc_machine_laws.specs.Standing.{Standing, whole_of, opened_at, whole_opened, after_event, after_events, accepted_commits}
use Rattle.svc_machine_laws.proofs.Given.{given}
use Rattle.svc_machine_laws.proofs.Folds.{commits_are, opened_reached, reached_is}
use Rattle.svc_machine.specs.Kept.{Parts, Kept, machine_value}
use Rattle.svc_machine.specs.Value.{MachineValue, StandsAt, IsSequentialMachine}
use Rattle.svc_machine.proofs.Keeping.{reached_at}

-- one event more
pub after_more : (img : Image) (config : Config) (s : Standing) (xs : List Event) (x : Event) → after_events img config s (xs ++ x ∷ []) ≡ after_event img config (after_events img config s xs) x
unfolding after_events
after_more img config s [] x = refl
after_more img config s (y ∷ xs) x = after_more img config (after_event img config s y) xs x

-- a machine that stands where a list of events leads has committed the first tasks of the sequential order, as many as commits were accepted
pub sequential_after : (m : Parts) → Kept m → (xs : List Event) → AllByRecursion IsEvent xs
    → StandsAt (machine_value m) (after_events m.image m.config (opened_at m.image m.config 0) xs)
    → IsSequentialMachine (accepted_commits m.image m.config (whole_opened m.image m.config 0) xs) (machine_value m)
sequential_after m kept xs are at =
    let start : Standing = opened_at m.image m.config 0 in
    let g = given m.image kept.sound in
    let k : ℕ = accepted_commits m.image m.config (whole_opened m.image m.config 0) xs in
    let count : m.plain.commits ≡ k =
    ap (λ (p : Plain). p.commits) at.plain ∙ commits_are m.image g m.config start xs are (opened_reached m.image g m.config 0) ∙ zero-add k in
    record {
      tasks = count;
      whole = λ s st.
          subst (λ n. IsSequential m.image n (whole_of m.image s)) (sym (ap (λ (p : Plain). p.commits) st.plain) ∙ count)
          (reached_is m.image g m.config s (reached_at m kept s st));
    }

-- the same, of a machine as contracts see it
pub sequential_of : (m : Parts) → Kept m → (v : MachineValue) → machine_value m ≡ v → (img : Image) (config : Config) → v.image ≡ img → v.config ≡ config
    → (xs : List Event) → AllByRecursion IsEvent xs → StandsAt v (after_events img config (opened_at img config 0) xs)
    → IsSequentialMachine (accepted_commits img config (whole_opened img config 0) xs) v
sequential_of m kept v view img config image_is config_is xs are at =
    let P : MachineValue → Image → Config → Type 0 = λ w i c. StandsAt w (after_events i c (opened_at i c 0) xs) in
    let Q : MachineValue → Image → Config → Type 0 = λ w i c. IsSequentialMachine (accepted_commits i c (whole_opened i c 0) xs) w in
    let i : m.image ≡ img = ap (λ (w : MachineValue). w.image) view ∙ image_is in
    let c : m.config ≡ config = ap (λ (w : MachineValue). w.config) view ∙ config_is in
    let first : P (machine_value m) img config = subst (λ (w : MachineValue). P w img config) (sym view) at in
    let second : P (machine_value m) m.image config = subst (λ (j : Image). P (machine_value m) j config) (sym i) first in
    let own : P (machine_value m) m.image m.config = subst (λ (d : Config). P (machine_value m) m.image d) (sym c) second in
    let found : Q (machine_value m) m.image m.config = sequential_after m kept xs are own in
    subst (λ (w : MachineValue). Q w img config) view
    (subst (λ (d : Config). Q (machine_value m) img d) c (subst (λ (j : Image). Q (machine_value m) j m.config) i found))
