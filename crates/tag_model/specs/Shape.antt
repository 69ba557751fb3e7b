use Rattle.std.specs.Prelude.{◌<◌, ◌≤◌, Result, Ok, Err, if◌then◌else◌, ◌==◌, nat_lt, ◌||◌}
use Rattle.tag_model.specs.declared.shape.Shape.{Shape}
use Rattle.tag_model.specs.declared.shape.ShapeError.{ShapeError}
use Rattle.tag_model.specs.declared.shape.ShapeError.TheVariants.{NoCpu, TooManyCpus, NoKernelTag, TooManyTags, TooManyFrames, TooManyVectors}
use Rattle.tag_model.specs.declared.limits.TheConstants.{MAX_CPUS, MAX_TAGS, MAX_FRAMES, MAX_VECTORS}

-- the numbers are within the limits
pub record IsChecked (s : Shape) : Type 0 where
  pub some_cpu : 0 < s.cpus
  pub few_cpus : s.cpus ≤ MAX_CPUS
  pub some_kernel_tag : 0 < s.kernel_tags
  pub few_kernel_tags : s.kernel_tags ≤ s.tags
  pub few_tags : s.tags ≤ MAX_TAGS
  pub few_frames : s.frames ≤ MAX_FRAMES
  pub few_vectors : s.vectors ≤ MAX_VECTORS

-- the checks in their order: the first that fails is the answer
abbrev pub checked : Shape → Result Shape ShapeError
checked s =
    if s.cpus == 0 then Err NoCpu
    else (if nat_lt MAX_CPUS s.cpus then Err TooManyCpus
    else (if s.kernel_tags == 0 then Err NoKernelTag
    else (if nat_lt MAX_TAGS s.tags || nat_lt s.tags s.kernel_tags then Err TooManyTags
    else (if nat_lt MAX_FRAMES s.frames then Err TooManyFrames
    else (if nat_lt MAX_VECTORS s.vectors then Err TooManyVectors
    else Ok s)))))
