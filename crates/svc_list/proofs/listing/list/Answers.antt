use Rattle.std.specs.Prelude.{slice_index_or}
use Rattle.std.proofs.Common.{◌<◌, Bool, false, length, ◌≡◌, ◌++◌, ◌∙◌, sym, ap, subst, List, ℕ, slice_index}
use Rattle.svc_image.specs.declared.version.Version.{Version}
use Rattle.svc_asm.specs.Programs.{IsProgramOf}
use Rattle.svc_names.specs.Given.{listed}
use Rattle.svc_list.specs.Listings.{is_labelled, text_of, marks, code, all_data, listing_of}
use Rattle.svc_list.proofs.NotesBack.{given_named}
use Rattle.svc_list.proofs.Program.{listing_is_program}
use Rattle.svc_list.proofs.Whole.{listed_whole}
use Rattle.svc_list.proofs.listing.list.Goals as goal

pub returns-clause-listing : goal.returns-clause-listing
returns-clause-listing c =
    let given = listed c.args.names in
    let again : c.version-2.result ≡ c.version.result = c.version-2.ensures ∙ sym c.version.ensures in
    let once_more : c.version-3.result ≡ c.version.result = c.version-3.ensures ∙ sym c.version.ensures in
    let each = λ (n : ℕ) (low : n < length c.text_words-text.result.now).
    ap (λ (xs : List Bool). slice_index_or xs n false) c.deref.ensures.value ∙ c.in_ok-labelled.ensures.labels n low in
    listed_whole given c.args.image.now c.version.result c.first_limit.result c.start.result c.registers.result.now c.entries-entries.result.now c.limits-2.result.now c.text_words-text.result.now c.read_only.result c.data_words.result.now _ _ _ _ _ _
    (record {
      same_version = c.version.ensures;
      same_limit = c.first_limit.ensures ∙ ap (λ (xs : List ℕ). slice_index xs 0) c.limits.ensures.value;
      same_start = c.start.ensures.value;
      same_registers = c.registers.ensures.value;
      same_entries = c.entries-entries.ensures.value;
      same_limits = c.limits-2.ensures.value;
      same_text = c.text_words-text.ensures.value;
      same_read_only = c.read_only.ensures.value;
      same_words = c.data_words.ensures.value;
    })
    c.new-out.ensures.items
    c.in_ok-put_head.ensures
    c.in_ok-put_settings.ensures
    (c.in_ok-put_code.ensures (is_labelled c.entries-entries.result.now c.text_words-text.result.now) each
    ∙ ap (λ (v : Version). c.put_settings.new.out.items ++ text_of (code given (length c.text_words-text.result.now) (is_labelled c.entries-entries.result.now c.text_words-text.result.now) 0 (marks v c.entries-entries.result.now c.limits-2.result.now) c.text_words-text.result.now)) again)
    c.in_ok-put_line.ensures
    (c.in_ok-put_all_data.ensures ∙ ap (λ (v : Version). c.put_line.new.out.items ++ text_of (all_data given v c.read_only.result c.data_words.result.now)) once_more)

pub returns-clause-program : goal.returns-clause-program
returns-clause-program c =
    let img = c.args.image.now in
    let same : c.put_all_data.new.out.items ≡ listing_of (listed c.args.names) img = returns-clause-listing c in
    subst (λ (text : List ℕ). IsProgramOf text img) (sym same) (listing_is_program (listed c.args.names) (given_named c.args.names) img c.start.ensures.sound)
