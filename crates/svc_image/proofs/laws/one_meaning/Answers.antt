use Rattle.std.proofs.Common.{◌∙◌, sym, ap, true}
use Rattle.svc_image.specs.declared.error.ImageError.TheVariants.{Short}
use Rattle.svc_image.specs.Reading.{image_in}
use Rattle.svc_image.proofs.Files.{sound-from-none, file_of-image_in}
use Rattle.svc_image.proofs.FilesBack.{fault-file_of, image_in-file_of}
use Rattle.svc_image.proofs.laws.one_meaning.Goals as goal

pub returns-clause-sound : goal.returns-clause-sound
returns-clause-sound c = fault-file_of

pub returns-clause-one : goal.returns-clause-one
returns-clause-one c = λ i j i_sound j_sound same. sym (image_in-file_of i i_sound) ∙ ap image_in same ∙ image_in-file_of j j_sound

pub returns-clause-whole : goal.returns-clause-whole
returns-clause-whole c = λ bytes small clean.
    let sound = sound-from-none bytes (true, Short) small clean in
    (image_in bytes, sound.image, file_of-image_in bytes small sound)
