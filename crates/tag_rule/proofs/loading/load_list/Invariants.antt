use Rattle.std.proofs.Common.{◌+◌, [], ◌∷◌}
use Rattle.tag_model.specs.declared.state.Part.TheVariants.{Modules, NextId}
use Rattle.tag_rule.specs.Rule.{view_of}
use Rattle.tag_rule.specs.Seated.{list_in}
use Rattle.tag_rule.proofs.Loads.{after_load, told_of_load}
use Rattle.tag_rule.proofs.loading.load_list.Given as goal

abbrev pub ghosts-exchange : goal.ghosts-exchange
ghosts-exchange a = record {
  kept = view_of (Modules (after_load a.about.now (list_in a.one.now.me.0.parts)) ∷ []);
  gone = view_of (NextId (a.about.now.id + 1) ∷ []);
  told = told_of_load a.words.now.shape a.about.now (list_in a.one.now.me.0.parts);
}
