use Rattle.std.proofs.Common.{[]}
use Rattle.svc_program.proofs.Joined.{file_next}
use Rattle.svc_program.proofs.assembly.add_others.Goals as goal

pub loop-name-preserved : goal.loop-name-preserved
loop-name-preserved g c =
    file_next (g.F.Files.held c.args.files.now) c.args.names.now c.loop-name.name-index record { ref_ptr = (0, 0); now = [] }
    c.args.text.now.items c.loop-name.text.items c.extend_from_slice.new.self.items c.add_file.new.text.items c.loop-name-test.true
    c.loop-name.invariant (c.in_ok-extend_from_slice.ensures {u = tt}).items (c.in_ok-add_file.ensures {u = tt})
