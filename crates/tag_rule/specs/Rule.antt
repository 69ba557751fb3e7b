-- The rule of the running table: its words are what the parts of all views say, each word above 0 is of one part, and these parts are a safe word state.
use Rattle.std.specs.Prelude.{◌≡◌, ℕ, ◌-◌, ◌*◌, ◌<◌, ◌==◌, if◌then◌else◌, List, [], ◌∷◌, ◌++◌, length, sum_by, slice_index}
use Rattle.atomic_table.specs.Table.{State}
use Rattle.tag_model.specs.declared.shape.Shape.{Shape}
use Rattle.tag_model.specs.declared.state.Part.{Part}
use Rattle.tag_model.specs.declared.state.Part.TheVariants.{Cpu, Place, Modules, NextId}
use Rattle.tag_model.specs.Index.{first_word, word_count}
use Rattle.tag_model.specs.Laws.{Safe}
use Rattle.tag_model.specs.RefWord.{held_word}
use Rattle.tag_model.specs.Shape.{IsChecked}
use Rattle.tag_model.specs.StepRules.{Becomes}
use Rattle.tag_model.specs.WordState.{one_if, in_range}
use Rattle.tag_rule.specs.declared.view.View.{View}

-- the part has the word q: a CPU its span of words, a place the word of its number
abbrev pub owns : Shape → ℕ → Part → ℕ
owns k q (Cpu c) = one_if (in_range (first_word k c.number) (2 * k.tags) q)
owns k q (Place n h) = one_if (n == q)
owns k q (Modules l) = 0
owns k q (NextId id) = 0

-- what the part says that its word q is; 0 of a word that it doesn't have
abbrev pub value : Shape → ℕ → Part → ℕ
value k q (Cpu c) = if in_range (first_word k c.number) (2 * k.tags) q then slice_index c.words (q - first_word k c.number) else 0
value k q (Place n h) = if n == q then held_word h else 0
value k q (Modules l) = 0
value k q (NextId id) = 0

-- the state of all views
abbrev pub all_parts : List View → List Part
all_parts [] = []
all_parts (v ∷ views) = v.parts ++ all_parts views

pub record Ruled (k : Shape) (s : State (Unit {0}) View) : Type 0 where
  pub checked : IsChecked k
  pub wide : length s.words ≡ word_count k
  pub owned : (q : ℕ) → 0 < q → q < word_count k → sum_by (owns k q) (all_parts s.views) ≡ 1
  pub exact : (q : ℕ) → 0 < q → q < word_count k → sum_by (value k q) (all_parts s.views) ≡ slice_index s.words q
  pub safe : Safe k (all_parts s.views)

abbrev pub view_of : List Part → View
view_of parts = record { parts = parts }

-- ---- what a step owes

-- parts may change so with no word changed: a base move, or a change of the module list
pub record Moves (k : Shape) (v w : List Part) : Type 0 where
  pub owned : (q : ℕ) → sum_by (owns k q) w ≡ sum_by (owns k q) v
  pub exact : (q : ℕ) → sum_by (value k q) w ≡ sum_by (value k q) v
  pub safe : (ps qs : List Part) → IsChecked k → Becomes v w ps qs → Safe k ps → Safe k qs

-- a safe state in which the parts stand tells this
abbrev pub Tells : Shape → List Part → Type 0 → Type 0
Tells k v told = (ps : List Part) → IsChecked k → Becomes v v ps ps → Safe k ps → told

-- the word that a step found becomes f of it, and the parts that own it become others. The step tells what it found, and what a safe state tells
pub record Writes (k : Shape) (i : ℕ) (f : ℕ → ℕ) (v : List Part) (after : ℕ → View) (tells : ℕ → Type 0) : Type 0 where
  pub mine : sum_by (owns k i) v ≡ 1
  pub owned : (q : ℕ) → sum_by (owns k q) (after (sum_by (value k i) v)).parts ≡ sum_by (owns k q) v
  pub exact : (q : ℕ) → sum_by (value k q) (after (sum_by (value k i) v)).parts ≡ (if q == i then f (sum_by (value k i) v) else sum_by (value k q) v)
  pub safe : (ps qs : List Part) → IsChecked k → Becomes v (after (sum_by (value k i) v)).parts ps qs → Safe k ps → Safe k qs
  pub told : Tells k v (tells (sum_by (value k i) v))

-- a load of a word that another seat owns: the parts of the loading seat become others by what is found, with no word changed
pub record Peeks (k : Shape) (i : ℕ) (v : List Part) (after : ℕ → View) (tells : ℕ → Type 0) : Type 0 where
  pub owned : (n q : ℕ) → sum_by (owns k q) (after n).parts ≡ sum_by (owns k q) v
  pub exact : (n q : ℕ) → sum_by (value k q) (after n).parts ≡ sum_by (value k q) v
  pub safe : (n : ℕ) (ps qs : List Part) → IsChecked k → sum_by (value k i) ps ≡ n → sum_by (owns k i) ps ≡ 1 → Becomes v (after n).parts ps qs → Safe k ps → Safe k qs
  pub told : (n : ℕ) (ps : List Part) → IsChecked k → sum_by (value k i) ps ≡ n → sum_by (owns k i) ps ≡ 1 → Becomes v v ps ps → Safe k ps → tells n
