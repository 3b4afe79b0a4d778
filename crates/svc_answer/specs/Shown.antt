-- What the program prints of the machine where a trace leads.
use Rattle.std.specs.Prelude.{◌≡◌, ℕ, List, Option}
use denote.Ref.{Bor}
use Rattle.std.specs.Io.KnownBytes.{Appends}
use Rattle.svc_base.specs.declared.config.Config.{Config}
use Rattle.svc_image.specs.Image.{Image}
use Rattle.svc_history_laws.specs.declared.entry.Entry.{Entry}
use Rattle.svc_show.specs.Show.{show_of}
use Rattle.svc_show.specs.declared.extras.Extras.{Extras}
use Rattle.svc_names.specs.declared.names.Names.{Names}
use Rattle.svc_names.specs.declared.rows.Rows.TheVariants as rows
use Rattle.svc_names.specs.Given.{listed, told_with}
use Rattle.svc_answer.specs.Fronts.{IsSoundFront, front}

-- the entries that are asked for are a legal history, and what a writer holds has grown by the text of the machine to
-- which they lead, with the names that are given
pub record TellsMachine (at : Option ℕ) (extras : Extras) (names : Option (Bor Names)) (img : Image) (c : Config)
    (es : List Entry) (old new : Option (List ℕ)) (exit : ℕ) : Type 0 where
  pub sound : IsSoundFront at img c es
  pub text : Appends old new (told_with (listed names) rows.Shown (show_of extras img c (front at es)))
  pub status : exit ≡ 0
