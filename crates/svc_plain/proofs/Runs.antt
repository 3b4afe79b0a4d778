-- Tasks in sequential order.
use Rattle.std.proofs.Common.{◌≡◌, ℕ, zero, suc, false, ◌+◌, ◌-◌, ◌≤◌, List, [], ◌++◌, length, take, drop, Option, Some, None, refl, sym, ◌∙◌, ap, subst, arith, add-one}
use Rattle.std.specs.Prelude.{slice_index}
use Rattle.std.proofs.lemmas.List.{append-nil, drop_all, take_all}
use Rattle.svc_image.specs.Image.{Image, IsImage}
use Rattle.svc_core_laws.specs.declared.end.End.{End}
use Rattle.svc_core_laws.specs.State.{State}
use Rattle.svc_core_laws.specs.Program.{Memory, Run, Seq, seq, task, next_task, followed_by, due_after, stopped_after, over, wrote, output}
use Rattle.svc_core_laws.specs.Words.{program}
use Rattle.svc_core_laws.specs.Bytes.{word_at}
use Rattle.svc_core_laws.specs.Sequence.{plain_seq, ending_of, IsSameSeq}
use Rattle.svc_core_laws.proofs.Sequential.{same_seq}
use Rattle.svc_plain.specs.Tasks.{tasks_due, tasks_run, IsRun}

same_due : (img : Image) (k : ℕ) → IsImage img → (seq (program img) k).due ≡ (plain_seq img k).due
same_due img k sound = (same_seq img k sound.words_fit).due

pub no_tasks : (img : Image) → IsRun img 0 0 img.words [] (Some img.start) None
no_tasks img = record { tasks = refl; few = omega arith; size = refl; memory = λ a. refl; output = refl; due = refl; stopped = refl }

-- one task more
pub next_run : (img : Image) (k count : ℕ) (m after out put : List ℕ) (entry : ℕ) (last : Option End) (e : End) → IsImage img → IsRun img k count m out (Some entry) last
    → length after ≡ length m → ((a : ℕ) → slice_index after a ≡ over (wrote (task (program img) entry (slice_index m)).log) (slice_index m) a) → put ≡ output (task (program img) entry (slice_index m)).log → (task (program img) entry (slice_index m)).core.done ≡ Some e
    → IsRun img (k + 1) (count + 1) after (out ++ put) (due_after (Some e)) (stopped_after (Some e))
next_run img k count m after out put entry last e sound run size memory output_is ended =
    let s : Seq = seq (program img) k in
    let here : slice_index m ≡ s.memory = λ i a. run.memory a i in
    let t : Run State = task (program img) entry (slice_index m) in
    let same : t ≡ task (program img) entry s.memory = ap (task (program img) entry) here in
    let next : seq (program img) (suc k) ≡ followed_by (program img) s (task (program img) entry s.memory) = ap (next_task (program img) s) (sym run.due) in
    let follows : seq (program img) (suc k) ≡ followed_by (program img) s t = next ∙ ap (followed_by (program img) s) (sym same) in
    let due : (plain_seq img k).due ≡ Some entry = sym (run.due ∙ same_due img k sound) in
    subst (λ (j : ℕ). IsRun img j (count + 1) after (out ++ put) (due_after (Some e)) (stopped_after (Some e))) (sym (add-one k))
    (record {
      tasks = ap (λ (x : ℕ). x + 1) run.tasks ∙ sym (ap (λ (o : Option ℕ). tasks_run img k + tasks_due o) due);
      few = omega (arith, run.few);
      size = size ∙ run.size;
      memory = λ a. memory a ∙ (ap (λ (x : Memory). over (wrote t.log) x a) here ∙ sym (ap (λ (q : Seq). q.memory a) follows));
      output = ap (λ (x : List ℕ). out ++ x) output_is ∙ (ap (λ (x : List ℕ). x ++ output t.log) run.output ∙ sym (ap (λ (q : Seq). q.output) follows));
      due = sym (ap (λ (q : Seq). q.due) follows ∙ ap due_after ended);
      stopped = sym (ap (λ (q : Seq). q.stopped) follows ∙ ap stopped_after ended);
    })

-- where no task is due, nothing more happens
idle_run : (img : Image) (k count : ℕ) (m out : List ℕ) (last : Option End) → IsImage img → IsRun img k count m out None last → IsRun img (suc k) count m out None last
idle_run img k count m out last sound run =
    let s : Seq = seq (program img) k in
    let same : seq (program img) (suc k) ≡ s = ap (next_task (program img) s) (sym run.due) in
    let due : (plain_seq img k).due ≡ None = sym (run.due ∙ same_due img k sound) in
    record {
      tasks = run.tasks ∙ (omega arith ∙ sym (ap (λ (o : Option ℕ). tasks_run img k + tasks_due o) due));
      few = omega (arith, run.few);
      size = run.size;
      memory = λ a. run.memory a ∙ sym (ap (λ (q : Seq). q.memory a) same);
      output = run.output ∙ sym (ap (λ (q : Seq). q.output) same);
      due = run.due ∙ sym (ap (λ (q : Seq). q.due) same);
      stopped = run.stopped ∙ sym (ap (λ (q : Seq). q.stopped) same);
    }

idle_runs : (img : Image) (n k count : ℕ) (m out : List ℕ) (last : Option End) → IsImage img → IsRun img k count m out None last → IsRun img (n + k) count m out None last
idle_runs img zero k count m out last sound run = subst (λ (j : ℕ). IsRun img j count m out None last) (omega arith) run
idle_runs img (suc n) k count m out last sound run =
    let more : suc (n + k) ≡ suc n + k = omega arith in
    subst (λ (j : ℕ). IsRun img j count m out None last) more (idle_run img (n + k) count m out last sound (idle_runs img n k count m out last sound run))

-- a run that stopped before its last task stands where it would stand after that
pub idle_until : (img : Image) (j k count : ℕ) (m out : List ℕ) (next : Option ℕ) (last : Option End) → IsImage img → j ≤ k → next ≡ None → IsRun img j count m out next last → IsRun img k count m out next last
idle_until img j k count m out next last sound le none run =
    let back : k - j + j ≡ k = omega arith in
    let idle : IsRun img j count m out None last = subst (λ (o : Option ℕ). IsRun img j count m out o last) none run in
    subst (λ (o : Option ℕ). IsRun img k count m out o last) (sym none) (subst (λ (i : ℕ). IsRun img i count m out None last) back (idle_runs img (k - j) j count m out last sound idle))

-- what is written back through a slice of a whole list is that list anew
pub written_back : (after before : List ℕ) (n : ℕ) → length after ≡ length before → n ≡ length before → take n (after ++ drop (length after) before) ≡ after
written_back after before n same size =
    ap (λ (rest : List ℕ). take n (after ++ rest)) (drop_all (length after) before (omega (arith, same)))
    ∙ ap (take n) (append-nil after) ∙ take_all n after (omega (arith, same, size))

-- equal parts are parts of one run
pub same_run : (img : Image) (k count : ℕ) (m m' out out' : List ℕ) (next next' : Option ℕ) (last last' : Option End) → IsRun img k count m out next last → m ≡ m' → out ≡ out' → next ≡ next' → last ≡ last' → IsRun img k count m' out' next' last'
same_run img k count m m' out out' next next' last last' run em eo en el = record {
  tasks = run.tasks;
  few = run.few;
  size = ap length (sym em) ∙ run.size;
  memory = λ a. ap (λ (x : List ℕ). slice_index x a) (sym em) ∙ run.memory a;
  output = sym eo ∙ run.output;
  due = sym en ∙ run.due;
  stopped = sym el ∙ run.stopped;
}

-- what a run on words leaves is what the run on bytes leaves
pub ends_so : (img : Image) (k count : ℕ) (m out : List ℕ) (next : Option ℕ) (last : Option End) → IsImage img → IsRun img k count m out next last → ending_of false last next ≡ ending_of false (plain_seq img k).stopped (plain_seq img k).due
ends_so img k count m out next last sound run =
    let same : IsSameSeq img (plain_seq img k) (seq (program img) k) = same_seq img k sound.words_fit in
    ap (λ (o : Option End). ending_of false o next) (run.stopped ∙ same.stopped) ∙ ap (ending_of false (plain_seq img k).stopped) (run.due ∙ same.due)

pub puts_out_so : (img : Image) (k count : ℕ) (m out : List ℕ) (next : Option ℕ) (last : Option End) → IsImage img → IsRun img k count m out next last → out ≡ (plain_seq img k).output
puts_out_so img k count m out next last sound run = run.output ∙ (same_seq img k sound.words_fit).output

pub leaves_so : (img : Image) (k count : ℕ) (m out : List ℕ) (next : Option ℕ) (last : Option End) → IsImage img → IsRun img k count m out next last → (a : ℕ) → slice_index m a ≡ word_at (plain_seq img k).memory a
leaves_so img k count m out next last sound run a = run.memory a ∙ (same_seq img k sound.words_fit).memory a
