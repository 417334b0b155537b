-- Worked examples of the definitions themselves: states, explained transitions and paths of 000's door (3) and wet object (4)
-- and of 01's full recipe, some that hold and some that do not.
-- Assumes nothing.
use Rattle.std.specs.Prelude.{◌≡◌, Bool, true, false, cond, List, [], ◌∷◌, ℕ, eqb}
use Rattle.action_language.specs.declared.Head.TheVariants.{Lit, False}
use Rattle.action_language.specs.declared.Law.{Law}
use Rattle.transitions.specs.Meaning.{Interpretation, caused, SatisfiesAll, Same, Explained, State, Path}
use Rattle.action_language.specs.Examples.{recipe_laws, door_laws, water_laws}

-- the interpretation of one fluent or action, and of two
abbrev pub one : Bool → Interpretation
one p f = p

abbrev pub two : Bool → Bool → Interpretation
two p q f = cond (eqb f 0) p q

-- I satisfies all that is caused and is not the resulting state
abbrev pub ShownBy : ℕ → List Law → Interpretation → Interpretation → Interpretation → Interpretation → Type 0
ShownBy n ls s a s' I = SatisfiesAll I (caused n s a s' ls) × (Same n I s' → ⊥)

-- what is caused: where the door closes by itself, where it would open by itself, where it is opened and closed; where the object
-- would dry; where a locked story is reflowed
pub record CausedExamples : Type 0 where
  pub closes-by-itself : caused 1 (one false) (one false) (one true) door_laws ≡ Lit 0 ∷ []
  pub opens-by-itself : caused 1 (one true) (one false) (one false) door_laws ≡ []
  pub opened-and-closed : caused 1 (one true) (one true) (one true) door_laws ≡ Lit 0 ∷ Lit 1 ∷ []
  pub dries : caused 2 (two false true) (one false) (two false false) water_laws ≡ Lit 1 ∷ []
  pub reflowed-while-locked : caused 2 (two true false) (one true) (two true true) recipe_laws ≡ Lit 2 ∷ False ∷ Lit 0 ∷ []

-- 000's (3): a state is closed or not, an action opens the door or not
pub record DoorExamples : Type 0 where
  pub closed-is-state : State door_laws (one true)
  pub open-is-state : State door_laws (one false)
  -- the four transitions that are explained; the first shows that the door is spring-loaded
  pub closes-by-itself : Explained 1 door_laws (one false) (one false) (one true)
  pub kept-open : Explained 1 door_laws (one false) (one true) (one false)
  pub stays_closed : Explained 1 door_laws (one true) (one false) (one true)
  pub opened : Explained 1 door_laws (one true) (one true) (one false)
  -- nothing causes it to open by itself: a closed door satisfies all that is caused too
  pub closed-shows : ShownBy 1 door_laws (one true) (one false) (one false) (one true)
  pub opens-by-itself : Explained 1 door_laws (one true) (one false) (one false) → ⊥
  -- both values are caused
  pub opened-and-closed : Explained 1 door_laws (one true) (one true) (one true) → ⊥
  -- open, not opened, closed; closed, not opened, open; closed, opened, open, not opened, open
  pub path-closes : Path 1 1 1 door_laws (2 ∷ 2 ∷ 1 ∷ [])
  pub path-opens-by-itself : Path 1 1 1 door_laws (1 ∷ 2 ∷ 2 ∷ []) → ⊥
  pub path-last-step : Path 1 1 2 door_laws (1 ∷ 1 ∷ 2 ∷ 2 ∷ 2 ∷ []) → ⊥

-- 000's (4): in water or not and wet or not; put in water or not
pub record WaterExamples : Type 0 where
  pub dry-is-state : State water_laws (two false false)
  pub wet-is-state : State water_laws (two false true)
  pub wet-in-water-is-state : State water_laws (two true true)
  pub dry-in-water : State water_laws (two true false) → ⊥
  -- being wet is an indirect effect
  pub put-in-water : Explained 2 water_laws (two false false) (one true) (two true true)
  pub stays-wet : Explained 2 water_laws (two false true) (one false) (two false true)
  -- nothing causes it to dry: it satisfies all that is caused while wet too
  pub wet-shows : ShownBy 2 water_laws (two false true) (one false) (two false false) (two false true)
  pub dries : Explained 2 water_laws (two false true) (one false) (two false false) → ⊥
  pub path-put-in-water : Path 2 1 1 water_laws (2 ∷ 2 ∷ 1 ∷ 1 ∷ 1 ∷ [])
  -- its step is explained, but it starts dry in water
  pub path-starts-dry-in-water : Path 2 1 1 water_laws (1 ∷ 2 ∷ 1 ∷ 1 ∷ 1 ∷ []) → ⊥

-- 01's full recipe: locked or not and flowed or not; reflowed or not
pub record RecipeExamples : Type 0 where
  pub reflowed : Explained 2 recipe_laws (two false false) (one true) (two false true)
  -- false is caused, which nothing satisfies
  pub reflowed-while-locked : Explained 2 recipe_laws (two true false) (one true) (two true true) → ⊥
  pub nothing-shows : (I : Interpretation) → SatisfiesAll I (caused 2 (two true false) (one true) (two true true) recipe_laws) → ⊥

pub record MeaningHolds : Type 0 where
  pub caused : CausedExamples
  pub door : DoorExamples
  pub water : WaterExamples
  pub recipe : RecipeExamples
