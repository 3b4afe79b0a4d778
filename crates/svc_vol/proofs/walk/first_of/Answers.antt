use Rattle.std.proofs.Common.{◌∙◌, ◌<◌, sym, ap, length, map, option_map, inl, inr, arith, below_more, true≢false, rules}
use Rattle.std.proofs.lemmas.Bool.{cases_Bool}
use Rattle.svc_line.specs.Line.{seen_line}
use Rattle.svc_links_laws.proofs.Walking.{walk_begins}
use Rattle.svc_vol.specs.Lines.{is_committed_version, lines_at, links_of, versions_of}
use Rattle.svc_vol.proofs.Finding.{line_at}
use Rattle.svc_vol.proofs.walk.first_of.Goals as goal
use Rattle.svc_vol.proofs.walk.first_of.Goals.{else-is_version-via-then-is_version+else-not-is_named, else-is_version-via-else-is_version}

pub loop-place-preserved : goal.loop-place-preserved
loop-place-preserved c = elim c.else-is_version.branch [
  | else-is_version-via-then-is_version+else-not-is_named w ↦ below_more _ _ c.loop-place.invariant (λ version. w.is_named.ensures.named (search rules))
  | else-is_version-via-else-is_version w ↦ below_more _ _ c.loop-place.invariant (λ version.
      absurd (true≢false (sym version ∙ ap is_committed_version (line_at c.args.found.now c.loop-place.place) ∙ sym c.is_version.ensures ∙ w.if-is_version.false)))
]

pub returns : goal.returns
returns c = λ u.
    let found = c.args.found.now in
    let lines = lines_at (map (option_map seen_line) found) in
    elim (cases_Bool (versions_of lines u)) [
      | inr clean ↦ clean
      | inl version ↦
          let first = walk_begins (length found) (versions_of lines) (links_of lines) u c.requires version in
          let within : first.0 < length found = c.requires.within first.0 first.1.is in
          let k = c.loop-place.invariant first.0 (omega (arith, within)) first.1.is in
          absurd (first.1.unnamed k.0 k.1 k.2)
    ]
