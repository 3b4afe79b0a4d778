-- A line of a listing leaves what is read next: a line.
use Rattle.std.proofs.Common.{◌≡◌, ℕ, ◌*◌, ◌-◌, ◌%◌, Bool, true, false, ◌==◌, [], ◌∷◌, ◌++◌, length, Option, Some, None, refl, subst, if◌then◌else◌, slice_set}
use Rattle.svc_rv32i.specs.declared.instr.Register.{Register}
use Rattle.svc_image.specs.declared.version.Version.{Version}
use Rattle.svc_image.specs.declared.version.Version.TheVariants as version
use Rattle.svc_layout.specs.declared.statement.Next.{Next}
use Rattle.svc_layout.specs.declared.statement.Next.TheVariants as go
use Rattle.svc_layout.specs.declared.statement.Statement.{Statement}
use Rattle.svc_layout.specs.declared.statement.Statement.TheVariants as say
use Rattle.svc_layout.specs.Options.{◌>>=◌}
use Rattle.svc_layout.specs.Layouts.{Layout}
use Rattle.svc_layout.specs.Contents.{with_value}
use Rattle.svc_layout.specs.Directives.{has_other, is_limit, with_version, data_up_to, read_only_up_to, with_read_only}
use Rattle.svc_layout.specs.Directives.{with_own, takes_entry, with_place, with_entry, with_limit, with_register}
use Rattle.svc_layout.specs.Lines.{going_on, after}
use Rattle.svc_list.specs.Listings.{HasText}

-- where there is a layout, this is read next
abbrev pub Keeps : Next → Option Layout → Type 0
Keeps n None = Unit {0}
Keeps n (Some d) = d.next ≡ n

both_keep : (n : Next) (o : Option Layout) (f : Layout → Option Layout) → Keeps n o → ((x : Layout) → x.next ≡ n → Keeps n (f x)) → Keeps n (o >>= f)
both_keep n None f h k = tt
both_keep n (Some x) f h k = k x h

if_keeps : (n : Next) (b : Bool) (o : Option Layout) → Keeps n o → Keeps n (if b then o else None)
if_keeps n true o h = h
if_keeps n false o h = tt

unless_keeps : (n : Next) (b : Bool) (o : Option Layout) → Keeps n o → Keeps n (if b then None else o)
unless_keeps n true o h = tt
unless_keeps n false o h = h

-- what goes on with a line
line_next : (o : Option Layout) (next : Next) → next ≡ go.Line → Keeps go.Line (o >>= going_on next)
line_next None next h = tt
line_next (Some x) next h = h

version_keeps : (n : Next) (v : Version) (d : Layout) → d.next ≡ n → Keeps n (with_version v d)
unfolding with_version
version_keeps n v d h = unless_keeps n (has_other v d.version) (Some (record d { version = Some v })) h

read_only_keeps : (n : Next) (d : Layout) → d.next ≡ n → Keeps n (with_read_only d)
unfolding with_read_only
read_only_keeps n d h =
    let bytes = data_up_to d.section d in
    if_keeps n (bytes % 4 == 0) (with_version version.Two d >>= read_only_up_to bytes)
    (both_keep n (with_version version.Two d) (read_only_up_to bytes) (version_keeps n version.Two d h) (λ x k. k))

own_keeps : (n : Next) (limit : Option ℕ) (d : Layout) → d.next ≡ n → Keeps n (with_own limit d)
own_keeps n None d h = h
own_keeps n (Some limit) d h = if_keeps n (is_limit limit) (with_version version.Two d) (version_keeps n version.Two d h)

limit_keeps : (n : Next) (limit : ℕ) (d : Layout) → d.next ≡ n → Keeps n (with_limit limit d)
unfolding with_limit
limit_keeps n limit d h = if_keeps n (is_limit limit) (Some (record d { limit = limit })) h

place_keeps : (n : Next) (limit : Option ℕ) (d : Layout) → d.next ≡ n → Keeps n (with_place limit d)
unfolding with_place
place_keeps n limit d h =
    if_keeps n (takes_entry d) (Some (record d { entries = d.entries ++ (4 * length d.text ∷ []); limits = d.limits ++ (limit ∷ []) })) h

entry_keeps : (n : Next) (limit : Option ℕ) (d : Layout) → d.next ≡ n → Keeps n (with_entry limit d)
unfolding with_entry
entry_keeps n limit d h = both_keep n (with_own limit d) (with_place limit) (own_keeps n limit d h) (λ x k. place_keeps n limit x k)

register_keeps : (n : Next) (r : Register) (v : ℕ) (d : Layout) → d.next ≡ n → Keeps n (with_register r v d)
unfolding with_register
register_keeps n r v d h = unless_keeps n (r.number == 0) (Some (record d { registers = slice_set d.registers (r.number - 1) v })) h

pub line_keeps : (s : Statement) (d : Layout) → HasText s → d.next ≡ go.Line → Keeps go.Line (after [] s d)
line_keeps (say.Value w m next) d h k = line_next (with_value w m d) next h.1
line_keeps (say.Version v) d h k = version_keeps go.Line v d k
line_keeps say.ReadOnly d h k = read_only_keeps go.Line d k
line_keeps (say.Entry limit) d h k = entry_keeps go.Line limit d k
line_keeps (say.Start m) d h k = k
line_keeps (say.Limit m) d h k = limit_keeps go.Line m d k
line_keeps (say.Register r m) d h k = register_keeps go.Line r m d k
line_keeps (say.Section s) d h k = refl
line_keeps _ d h k = absurd h

-- so it does where the layout behind it is known
pub kept : (n : Next) (o : Option Layout) (e : Layout) → Keeps n o → o ≡ Some e → e.next ≡ n
kept n o e h is = subst (λ (x : Option Layout). Keeps n x) is h
