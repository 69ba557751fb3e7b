-- Storage on its way home, as storage.
use Rattle.slab_cache.specs.declared.object.Returning.{Returning}
use Rattle.slab_cache.specs.declared.object.Returning.TheVariants as returning
use Rattle.slab_cache.specs.declared.object.Stored.{Stored}
use Rattle.slab_cache.specs.declared.object.Stored.TheVariants as stored

abbrev pub returned_as : Returning → Stored
returned_as (returning.Pages block) = stored.Pages block
returned_as (returning.InSlab place) = stored.InSlab place
