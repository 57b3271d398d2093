-- How a refusal is printed.
--
--   layer_text l      the word of the layer l
--   refusal_text r    `refused NUMBER at PLACE in LAYER`
--
-- Assumes nothing.
use Rattle.std.specs.Prelude.{ℕ, List, ◌++◌, codes, decimal}
use Rattle.refusal.specs.declared.refusal.Layer.{Layer}
use Rattle.refusal.specs.declared.refusal.Layer.TheVariants.{Name, Path, Line}
use Rattle.refusal.specs.declared.refusal.Refusal.{Refusal}

abbrev pub layer_text : Layer → List ℕ
layer_text Name = codes "name"
layer_text Path = codes "path"
layer_text Line = codes "line"

abbrev pub refusal_text : Refusal → List ℕ
refusal_text r = codes "refused " ++ (decimal r.number ++ (codes " at " ++ (decimal r.place ++ (codes " in " ++ layer_text r.layer))))
