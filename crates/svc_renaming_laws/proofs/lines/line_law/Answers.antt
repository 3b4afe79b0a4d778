use Rattle.svc_renaming_laws.proofs.LineNames.{renamed_sound, same_map, same_newest, same_supplier}
use Rattle.svc_renaming_laws.proofs.LineMoves.{renamed_read, renamed_write, renamed_replace, renamed_squash, renamed_commit, renamed_begin, same_full, same_resident, same_pinned}
use Rattle.svc_renaming_laws.proofs.lines.line_law.Goals as goal

pub returns : goal.returns
returns c = record {
  sound = renamed_sound;
  map = same_map;
  newest = same_newest;
  supplier = same_supplier;
  read = renamed_read;
  write = renamed_write;
  replace = renamed_replace;
  squash = λ r t is sound. renamed_squash r t is;
  commit = λ r t is sound. renamed_commit r t is;
  begin = λ r t is sound. renamed_begin r t is;
  full = λ r t is sound. same_full r t is;
  resident = λ r t is sound. same_resident r t is;
  pinned = λ r t is sound. same_pinned r t is;
}
