-- The words for what is wrong.
use Rattle.std.specs.Prelude.{ℕ, List, [], codes, decimal, ◌++◌, cond, is_some}
use Rattle.svc_base.specs.declared.config.ConfigError.{ConfigError}
use Rattle.svc_base.specs.declared.config.ConfigError.TheVariants as config
use Rattle.svc_base.specs.declared.refusal.Refusal.{Refusal}
use Rattle.svc_base.specs.declared.refusal.Refusal.TheVariants as refusal
use Rattle.svc_image.specs.declared.error.ImageError.{ImageError}
use Rattle.svc_image.specs.declared.error.ImageError.TheVariants as image
use Rattle.svc_history_laws.specs.declared.entry.Entry.{Entry}
use Rattle.svc_history_laws.specs.declared.entry.Kind.{Kind}
use Rattle.svc_history_laws.specs.declared.entry.Kind.TheVariants as kind

-- the words of a refusal
unfoldable pub refusal_words : Refusal → List ℕ
refusal_words refusal.NoSuchUnit = codes "there is no such unit"
refusal_words refusal.Busy = codes "the unit has a task"
refusal_words refusal.Idle = codes "the unit has no task"
refusal_words refusal.Stale = codes "the burst doesn't start where the unit's task is"
refusal_words refusal.ForeignText = codes "the burst's looks aren't the image's"
refusal_words refusal.NotEntry = codes "the guess is no entry, and a task is active"
refusal_words refusal.Stopped = codes "the run has stopped"
refusal_words refusal.Done = codes "the unit's task has ended"
refusal_words (refusal.SetFull a) = codes "the cache has no line of the asked word, and its set is full"
refusal_words refusal.NotResident = codes "the unit has no line of the word"
refusal_words refusal.Pinned = codes "the line is active, and the unit doesn't run the head"
refusal_words refusal.HeadNotDone = codes "the head has not ended"
refusal_words refusal.NoTask = codes "no task is active"
refusal_words refusal.IsHead = codes "the unit runs the head"
refusal_words refusal.HistoryFull = codes "as many events were accepted as the configuration allows"
refusal_words refusal.EpochsSpent = codes "the last epoch has been given out"
refusal_words refusal.EmptyBurst = codes "the burst has neither turns nor an ask"

-- the word to replace first, where the set is full
abbrev pub replace_first : Refusal → List ℕ
replace_first (refusal.SetFull a) = codes "; replace word " ++ decimal a.0 ++ codes " first"
replace_first _ = []

-- the column that its event needs and that is empty in the entry: the first of them
abbrev pub missing_column : Kind → Entry → List ℕ
missing_column kind.Submit e = cond (is_some e.local) (codes "ask") (codes "local")
missing_column _ e = codes "arg"

-- the kind of an event, with its article
abbrev pub an_event : Kind → List ℕ
an_event kind.Assign = codes "an assign"
an_event kind.Submit = codes "a submit"
an_event kind.Replace = codes "a replace"
an_event kind.Cancel = codes "a cancel"
an_event kind.Commit = codes "a commit"

-- the range of a number of the configuration
abbrev pub config_words : ConfigError → List ℕ
config_words config.Units = codes "--units is 1 to 16"
config_words config.Sets = codes "--sets is a power of two from 1 to 256"
config_words config.Ways = codes "--ways is 1 to 4"
config_words config.Events = codes "--events is 1 to 1000000"
config_words config.Turns = codes "--turns is 1 to 10000000"

-- the field of an image's file, and what would be right
abbrev pub image_words : ImageError → List ℕ
image_words image.Short = codes "the image's file ends before its last field does"
image_words image.Magic =
    codes "the image's file doesn't begin with SVCI; a text has to be assembled first: svcsim assemble TEXT IMAGE"
image_words image.Version = codes "the version, bytes 4 and 5 of the image's file, has to be 1 or 2"
image_words image.Count = codes "the image's file has to have 1 to 1024 entries, 1 to 65536 words of text and as many of data, no more read-only words than words of data, and limits of 1 to 65536 turns"
image_words image.EntryOrder = codes "each entry of the image's file has to be above the one before it"
image_words image.EntryPlace =
    codes "each entry of the image's file has to be a multiple of 4 below 4 times its number of text words"
image_words image.Start = codes "the start, bytes 20 to 23 of the image's file, has to be one of its entries"
image_words image.Trailing = codes "the image's file goes on behind its last word of data"
image_words image.Memory = codes "memory ran out"
