-- The words that a turn touches, by what it asks.
use Rattle.std.specs.Prelude.{ℕ, Option, Some, None}
use Rattle.svc_rv32i.specs.declared.instr.StoreKind.{StoreKind}
use Rattle.svc_rv32i.specs.declared.instr.StoreKind.TheVariants as store
use Rattle.svc_core_laws.specs.declared.ask.Ask.{Ask}
use Rattle.svc_core_laws.specs.declared.ask.Ask.TheVariants as ask
use Rattle.svc_core_laws.specs.Numbers.{load_bytes, store_bytes}
use Rattle.svc_core_laws.specs.Turns.{word_address, access_trap, store_trap}

-- the word of an access, unless it traps
abbrev pub unless_trap : Option ℕ → (word : ℕ) → Option ℕ
unless_trap (Some trap) word = None
unless_trap None word = Some word

-- the word that a store reads of the one that it writes: one of less than a word reads that word
abbrev pub part_read : StoreKind → Option ℕ → Option ℕ
part_read store.Byte word = word
part_read store.Half word = word
part_read store.Word word = None

-- the word of a store to data of so many words, of which so many are read-only
abbrev pub stored_word : (words read_only : ℕ) → StoreKind → (addr : ℕ) → Option ℕ
stored_word words read_only kind addr =
    unless_trap (store_trap words read_only (store_bytes kind) addr) (word_address addr)

-- the word that is read where this is asked, and the one that is written
abbrev pub asked_read : (words read_only : ℕ) → Ask → Option ℕ
asked_read words read_only ask.Nothing = None
asked_read words read_only (ask.Load kind rd addr) =
    unless_trap (access_trap words (load_bytes kind) addr) (word_address addr)
asked_read words read_only (ask.Store kind addr value) = part_read kind (stored_word words read_only kind addr)
asked_read words read_only (ask.Emit w) = None

abbrev pub asked_written : (words read_only : ℕ) → Ask → Option ℕ
asked_written words read_only ask.Nothing = None
asked_written words read_only (ask.Load kind rd addr) = None
asked_written words read_only (ask.Store kind addr value) = stored_word words read_only kind addr
asked_written words read_only (ask.Emit w) = None
