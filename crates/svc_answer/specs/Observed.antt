-- What the program prints of what a trace shows.
use Rattle.std.specs.Prelude.{◌≡◌, ℕ, List, Option, flat_map}
use Rattle.std.specs.Io.KnownBytes.{Appends}
use Rattle.svc_base.specs.declared.config.Config.{Config}
use Rattle.svc_image.specs.Image.{Image}
use Rattle.svc_history_laws.specs.declared.entry.Entry.{Entry}
use Rattle.svc_history_laws.specs.Legal.{LegalHistory}
use denote.Ref.{Bor}
use Rattle.svc_names.specs.declared.names.Names.{Names}
use Rattle.svc_names.specs.declared.rows.Rows.TheVariants as rows
use Rattle.svc_names.specs.Given.{listed, told_with}
use Rattle.svc_observations.specs.declared.trace.Sighting.{Sighting}
use Rattle.svc_observations.specs.Rows.{row_of_sighting}
use Rattle.svc_observations.specs.Sightings.{AreSightings}

-- the entries are a legal history, and a row was printed for each observation that they show, with the names that are
-- given
pub record TellsSightings (names : Option (Bor Names)) (img : Image) (config : Config) (es : List Entry)
    (old new : Option (List ℕ)) (exit : ℕ) : Type 0 where
  pub legal : LegalHistory img config es
  pub sightings : List Sighting
  pub are : AreSightings img config es sightings
  pub text : Appends old new (told_with (listed names) rows.Seen (flat_map row_of_sighting sightings))
  pub status : exit ≡ 0
