use Rattle.slab_cache.proofs.TableLemmas.{loses_emptied}
use Rattle.slab_cache.proofs.table.SlabTable.give_place.Goals as goal

pub returns-else-put_back : goal.returns-else-put_back
returns-else-put_back c = loses_emptied c.args.self.now c.put_back.new.self c.take_out.new.self c.args.place c.take_out.result c.put_back.result c.put_back.ensures c.if-put_back.false c.take_out.ensures.table c.take_out.ensures.slab
