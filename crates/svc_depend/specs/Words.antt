-- What is kept of a word, as reads and stores change it.
use Rattle.std.specs.Prelude.{ℕ, ◌+◌, ◌-◌, ◌==◌, ◌||◌, not, nat_lt, cond, if◌then◌else◌, Bool, Option, Some, None}
use Rattle.svc_depend_laws.specs.Over.{lesser}
use Rattle.svc_depend.specs.declared.word.Word.{Word}
use Rattle.svc_depend.specs.declared.word.Read.{Read}
use Rattle.svc_depend.specs.declared.word.Write.{Write}

abbrev pub untouched : Word
untouched = record { reader = 0; writer = 0; stored = 0; readers = 0; writers = 0; nearest = None }

-- how far before a task the one is whose number comes before the writer's, if it is an earlier one
abbrev pub distance_back : (task writer : ℕ) → Option ℕ
distance_back task writer = if (writer == 0) || nat_lt task writer then None else Some (task + 1 - writer)

-- whether this task needs it or wrote it
abbrev pub is_touched : (task : ℕ) → Word → Bool
is_touched task x = (x.reader == task + 1) || (x.writer == task + 1)

-- a read by a task that needs it here for the first time
abbrev pub first_read : (task : ℕ) → Word → Read
first_read task x = record {
  word = record x {
    reader = task + 1;
    readers = x.readers + 1;
    nearest = lesser (distance_back task x.writer) x.nearest;
  };
  needs = 1;
  memory = cond (x.writer == 0) 1 0;
  distance = distance_back task x.writer;
  ready = x.stored;
}

abbrev pub later_read : Word → Read
later_read x = record { word = x; needs = 0; memory = 0; distance = None; ready = 0 }

abbrev pub read_by : (task : ℕ) → Word → Read
read_by task x = cond (is_touched task x) (later_read x) (first_read task x)

abbrev pub written_by : (task now : ℕ) → Word → Write
written_by task now x =
    let stores = cond (not (x.writer == task + 1)) 1 0 in
    record { word = record x { writer = task + 1; writers = x.writers + stores; stored = now }; stores = stores }
