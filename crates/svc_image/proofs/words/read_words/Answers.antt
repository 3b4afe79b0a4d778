use Rattle.std.proofs.Common.{◌≡◌, length, arith}
use Rattle.std.proofs.lemmas.List.{take_at}
use Rattle.svc_image.proofs.Wordwise.{read-words_in}
use Rattle.svc_image.proofs.words.read_words.Goals as goal

pub returns : goal.returns
returns c =
    let len : length c.read_u32_into.new.dst ≡ c.in_ok-words.words.len = omega (arith, c.read_u32_into.auto.dst, c.deref_mut.ensures.len) in
    let count : length c.read_u32_into.new.dst ≡ c.args.count = omega (arith, len, c.in_ok-words.ensures.len) in
    rw (take_at c.read_u32_into.new.dst _ c.in_ok-words.words.len len)
    (read-words_in c.args.count c.args.bytes.now c.read_u32_into.new.dst count c.read_u32_into.ensures)
