-- Lists of events, and histories, of renamed units.
use Rattle.std.proofs.Common.{◌≡◌, List, [], ◌∷◌, map, Option, Some, None, refl, sym, ap, ◌∙◌, subst}
use Rattle.std.specs.List.{AllByRecursion}
use Rattle.svc_base.specs.declared.config.Config.{Config}
use Rattle.svc_base.specs.declared.refusal.Refusal.{Refusal}
use Rattle.svc_image.specs.Image.{Image}
use Rattle.svc_machine_laws.specs.Events.{Event, IsEvent}
use Rattle.svc_machine_laws.specs.Standing.{Standing, opened_at, unless, refusal_of, standing_after, reply_to, after_event, after_events}
use Rattle.svc_machine_laws.specs.Reached.{IsReached}
use Rattle.svc_machine_laws.proofs.Given.{Given}
use Rattle.svc_machine_laws.proofs.Folds.{opened_reached}
use Rattle.svc_machine_laws.proofs.Standings.{step_reached, event_reached}
use Rattle.svc_history_laws.specs.declared.entry.Entry.{Entry}
use Rattle.svc_history_laws.specs.Entries.{entry_of}
use Rattle.svc_history_laws.specs.Histories.{HasEvent}
use Rattle.svc_history_laws.specs.Legal.{LegalEntry, Legal, LegalHistory, after_entry, last, led_to}
use Rattle.svc_history_laws.proofs.Leases.{has_event}
use Rattle.svc_history_laws.proofs.Legality.{legal_entry, entry_leads}
use Rattle.svc_renaming_laws.specs.Renamings.{Renaming, IsRenaming}
use Rattle.svc_renaming_laws.specs.Renamed.{renamed_standing, renamed_event, renamed_entry}
use Rattle.svc_renaming_laws.specs.HistoryLaws.{IsLegalRenamed}
use Rattle.svc_renaming_laws.proofs.RefusalNames.{renamed_refused}
use Rattle.svc_renaming_laws.proofs.EventNames.{renamed_is, renamed_step}
use Rattle.svc_renaming_laws.proofs.ReplyNames.{entry_renamed, reply_renamed}

module _ (img : Image) (is_given : Given img) (config : Config) (r : Renaming) (is : IsRenaming config.units r) where
  -- ---- events
  after_renamed : (s : Standing) → IsReached img config s → (x : Event) → IsEvent x → after_event img config (renamed_standing r s) (renamed_event r x) ≡ renamed_standing r (after_event img config s x)
  unfolding after_event
  after_renamed s reached x ev =
      ap (λ o. unless o (renamed_standing r s) (standing_after img (renamed_standing r s) (renamed_event r x))) (renamed_refused img config r s is reached x)
      ∙ of (refusal_of img config s x) refl
    where
      of : (o : Option Refusal) → refusal_of img config s x ≡ o → unless o (renamed_standing r s) (standing_after img (renamed_standing r s) (renamed_event r x)) ≡ renamed_standing r (unless o s (standing_after img s x))
      of None e = renamed_step img is_given config r s is reached x ev e
      of (Some why) e = refl

  pub run_renamed : (xs : List Event) (s : Standing) → IsReached img config s → AllByRecursion IsEvent xs
      → after_events img config (renamed_standing r s) (map (renamed_event r) xs) ≡ renamed_standing r (after_events img config s xs)
  unfolding after_events
  run_renamed [] s reached all = refl
  run_renamed (x ∷ xs) s reached all =
      ap (λ t. after_events img config t (map (renamed_event r) xs)) (after_renamed s reached x all.0)
      ∙ run_renamed xs (after_event img config s x) (event_reached img is_given config s reached x all.0) all.1

  -- ---- entries
  record IsRenamedEntry (s : Standing) (e : Entry) : Type 0 where
    pub legal : LegalEntry img config (renamed_standing r s) (renamed_entry r e)
    pub leads : after_entry img (renamed_standing r s) (renamed_entry r e) ≡ renamed_standing r (after_entry img s e)
    pub reached : IsReached img config (after_entry img s e)

  one_entry : (s : Standing) → IsReached img config s → (e : Entry) → LegalEntry img config s e → IsRenamedEntry s e
  one_entry s reached e h =
      let has : HasEvent img config s e = has_event img is_given config s e h in
      let x : Event = has.event in
      let y : Event = renamed_event r x in
      let there : Standing = renamed_standing r s in
      let ev : IsEvent y = renamed_is r x has.is in
      let accepted : refusal_of img config there y ≡ None = renamed_refused img config r s is reached x ∙ has.accepted in
      let same : entry_of y (reply_to img there y) ≡ renamed_entry r e =
      ap (entry_of y) (reply_renamed r img config s is reached x) ∙ entry_renamed r x (reply_to img s x) ∙ ap (renamed_entry r) (sym has.entry) in
      record {
        legal = subst (LegalEntry img config there) same (legal_entry img is_given config there y ev accepted);
        leads =
            ap (after_entry img there) (sym same)
            ∙ entry_leads img is_given config there y ev accepted
            ∙ renamed_step img is_given config r s is reached x has.is has.accepted
            ∙ ap (renamed_standing r) (sym has.leads);
        reached = subst (IsReached img config) (sym has.leads) (step_reached img is_given config s reached x has.is has.accepted);
      }

  pub legal_renamed : (es : List Entry) (s : Standing) → IsReached img config s → Legal img config s es → IsLegalRenamed img config r s es
  unfolding Legal last
  legal_renamed [] s reached h = record { legal = tt; leads = refl }
  legal_renamed (e ∷ es) s reached h =
      let one : IsRenamedEntry s e = one_entry s reached e h.0 in
      let rest : IsLegalRenamed img config r (after_entry img s e) es = legal_renamed es (after_entry img s e) one.reached h.1 in
      record {
        legal = (one.legal, subst (λ t. Legal img config t (map (renamed_entry r) es)) (sym one.leads) rest.legal);
        leads = ap (λ t. last img t (map (renamed_entry r) es)) one.leads ∙ rest.leads;
      }

  -- nothing has a unit before any event
  pub history_renamed : (es : List Entry) → LegalHistory img config es
      → LegalHistory img config (map (renamed_entry r) es) × (led_to img config (map (renamed_entry r) es) ≡ renamed_standing r (led_to img config es))
  history_renamed es h =
      let all : IsLegalRenamed img config r (opened_at img config 0) es = legal_renamed es (opened_at img config 0) (opened_reached img is_given config 0) h in
      (all.legal, all.leads)
