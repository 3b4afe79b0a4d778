-- The names of files in a request.
use Rattle.std.specs.Prelude.{◌≡◌, ◌⊎◌, ℕ, List, ◌∷◌, Option, None, Some, IsSomeAnd, option_map}
use denote.Ref.{Bor}
use Rattle.std.specs.List.{Any}
use Rattle.svc_request.specs.declared.request.Assembly.{Assembly}
use Rattle.svc_request.specs.declared.request.Schedule.{Schedule}
use Rattle.svc_request.specs.declared.request.Source.{Source}
use Rattle.svc_request.specs.declared.request.Source.TheVariants as source
use Rattle.svc_request.specs.declared.request.Request.{Request}
use Rattle.svc_request.specs.declared.request.Request.TheVariants as request

-- the image's file has this name
abbrev pub IsNameOf : List ℕ → Source → Type 0
IsNameOf name source.BuiltIn = ⊥
IsNameOf name (source.File file) = file.now ≡ name

-- the script whose events come before the schedule has this name
abbrev pub IsScriptOf : List ℕ → Option Schedule → Type 0
IsScriptOf name schedule = IsSomeAnd schedule (λ s. IsSomeAnd s.after (λ script. script.now ≡ name))

-- the table of names has this name
abbrev pub IsTableOf : List ℕ → Option (Bor (List ℕ)) → Type 0
IsTableOf name names = IsSomeAnd names (λ table. table.now ≡ name)

-- this is one of the names
abbrev pub IsAmong : List ℕ → List (Bor (List ℕ)) → Type 0
IsAmong name names = Any (λ one. one.now ≡ name) names

-- the names of the texts, in their order
abbrev pub texts_of : Assembly → List (Bor (List ℕ))
texts_of assembly = assembly.text ∷ assembly.others.items

-- one of the texts has this name
abbrev pub IsTextOf : List ℕ → Assembly → Type 0
IsTextOf name assembly = (assembly.text.now ≡ name) ⊎ IsAmong name assembly.others.items

-- the image or the table of names has the name of a text, or both have one name
abbrev pub IsOverText : Assembly → Type 0
IsOverText assembly =
    IsTextOf assembly.image.now assembly ⊎ IsSomeAnd assembly.names (λ table. IsTextOf table.now assembly)
    ⊎ IsTableOf assembly.image.now assembly.names

-- the image that a request is about, if that is an existing one
abbrev pub source_of : Request → Option Source
source_of (request.Run run) = Some run.image
source_of (request.Sequential tasks) = Some tasks.image
source_of (request.Depend depended) = Some depended.image
source_of (request.Explore explored) = Some explored.image
source_of (request.Find explored sought trace) = Some explored.image
source_of (request.Observe traced names) = Some traced.image
source_of (request.Script scripted) = Some scripted.image
source_of (request.Check traced compared script) = Some traced.image
source_of (request.Profile traced to by names) = Some traced.image
source_of (request.Show traced shown) = Some traced.image
source_of (request.Draw traced picture) = Some traced.image
source_of (request.Export traced exported) = Some traced.image
source_of (request.List image names) = Some image
source_of _ = None

-- the name of the file to write, or of the first of two, if there is one
abbrev pub written_by : Request → Option (List ℕ)
written_by (request.Run run) = option_map (λ name. name.now) run.trace
written_by (request.Find explored sought trace) = option_map (λ name. name.now) trace
written_by (request.Script scripted) = option_map (λ name. name.now) scripted.trace
written_by (request.Check traced compared script) = option_map (λ name. name.now) script
written_by (request.Draw traced picture) = Some picture.file.now
written_by (request.Export traced exported) = Some exported.file.now
written_by (request.Assemble assembly) = Some assembly.image.now
written_by _ = None

-- the name of the second file to write, if there are two
abbrev pub also_written_by : Request → Option (List ℕ)
also_written_by (request.Assemble assembly) = option_map (λ name. name.now) assembly.names
also_written_by _ = None

-- a file to write is also one to read, or would be written twice
abbrev pub IsOverItself : Request → Type 0
IsOverItself (request.Run run) =
    IsSomeAnd run.trace (λ name. IsScriptOf name.now run.schedule ⊎ IsNameOf name.now run.image)
IsOverItself (request.Find explored sought trace) =
    IsSomeAnd trace (λ name. IsTableOf name.now explored.names ⊎ IsNameOf name.now explored.image)
IsOverItself (request.Script scripted) =
    IsSomeAnd scripted.trace (λ name. (scripted.events.now ≡ name.now) ⊎ IsNameOf name.now scripted.image)
IsOverItself (request.Check traced compared script) =
    IsSomeAnd script (λ name. (traced.trace.now ≡ name.now) ⊎ IsNameOf name.now traced.image)
IsOverItself (request.Draw traced picture) =
    (traced.trace.now ≡ picture.file.now) ⊎ IsTableOf picture.file.now picture.names
    ⊎ IsNameOf picture.file.now traced.image
IsOverItself (request.Export traced exported) =
    (traced.trace.now ≡ exported.file.now) ⊎ IsNameOf exported.file.now traced.image
IsOverItself (request.Assemble assembly) = IsOverText assembly
IsOverItself _ = ⊥
