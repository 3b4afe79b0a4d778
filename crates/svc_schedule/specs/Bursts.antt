-- The units' bursts.
use Rattle.std.specs.Prelude.{◌≡◌, ℕ, List, length, All}
use Rattle.svc_image.specs.Image.{Image}
use Rattle.svc_core_laws.specs.Bursts.{Advance, IsAdvance}

-- there is one for each unit that a machine may have, and each is what advancing a lease by at most `most` turns makes
pub record AreReady (img : Image) (most : ℕ) (bursts : List Advance) : Type 0 where
  pub count : length bursts ≡ 16
  pub each : All (IsAdvance img most) bursts
