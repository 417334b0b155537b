-- What a line of a description comes to: a refusal by 2 to 6, or a step of which all is told that reading the line finds out. So
-- a fact of each of these is a fact of every line's step, and no theorem on lines goes through keys and values again.
-- Assumes nothing.
use mathlib.Core.Path.{◌≡◌, refl, sym, subst}
use mathlib.Core.Logic.{⊎_elim}
use mathlib.Core.Bool.{Bool, true, false, not, cond, ◌&&◌, ◌||◌}
use mathlib.Core.List.{List, [], ◌∷◌, ◌++◌}
use mathlib.Core.Option.{Option, none, some}
use Prim.Native.Nat.{ℕ, suc, ◌+◌, ◌-◌, ◌*◌, min, ◌≤◌, ◌<◌}
use native.Mathlib.Omega.{arith}
use borrow.Author.Tests.{ltb-true, lt-ltb, leb-true, eqb-true}
use lib.Dec.{eqb, ltb, leb}
use lib.ListN.{length, length-append}
use Rattle.basics.specs.Search.{Each}
use Rattle.basics.proofs.Tests.{and-iff, or-iff, each_append}
use Rattle.action_language.specs.declared.Head.{Head}
use Rattle.action_language.specs.declared.Head.TheVariants.{Lit, False}
use Rattle.action_language.specs.declared.Kind.{Kind}
use Rattle.action_language.specs.declared.Kind.TheVariants.{Static, Dynamic}
use Rattle.action_language.specs.declared.Law.{Law}
use Rattle.action_language.specs.Laws.{law_of}
use Rattle.action_language.specs.Acceptance.{head_fits}
use Rattle.spelling.specs.Letters.{is_digit}
use Rattle.text_forms.specs.Bytes.{hyphen}
use Rattle.text_forms.specs.Lines.{horizon_key, fluent_key, action_key, static_key, dynamic_key, if_key, after_key, end_key}
use Rattle.text_forms.specs.Lines.{default_key, inertial_key, causes_key, by_key, nonexecutable_key}
use Rattle.spelling.specs.Spelling.{same_name, false_bytes}
use Rattle.text_forms.specs.Names.{is_new, declared_at, in_sort, literal}
use Rattle.text_forms.specs.Lists as lists
use Rattle.text_forms.specs.Lists.{Listed, codes, items, added, list_from, list_of}
use Rattle.line_values.specs.HorizonText.{in_horizon, horizon_of}
use Rattle.line_values.specs.ShortLaws.{default_law, inertial_law, causes_law, nonexecutable_law}
use Rattle.description_lines.specs.LineSteps as step
use Rattle.description_lines.specs.LineSteps.{Due, horizon_due, first_fluent_due, fluent_due, action_due, law_due, if_due}
use Rattle.description_lines.specs.LineSteps.{after_due, by_due, Draft, starts_law, allowed, Step, next, finish}
use Rattle.description_lines.specs.LineSteps.{horizon_line, name_line, lit_head, read_head, begun, room_for, whole, with_if}
use Rattle.description_lines.specs.LineSteps.{if_line, with_after, after_line, whole_by_literal, whole_by_list, end_line}
use Rattle.description_lines.specs.LineSteps.{any_list, key_line, line_step}

-- a choice by what its test says
pub chosen : {A : Type 0} (P : A → Type 0) (b : Bool) {x y : A} → (b ≡ true → P x) → (b ≡ false → P y) → P (cond b x y)
chosen P true t f = t refl
chosen P false t f = f refl

-- Values

-- a horizon is 1 to 30
module _ (P : Option ℕ → Type 0) (bad : P none) (good : (T : ℕ) → 1 ≤ T → T ≤ 30 → P (some T)) where
  in-limits : (T : ℕ) → P (in_horizon T)
  in-limits T =
      chosen P (leb 1 T && leb T 30)
      (λ e. let within = (and-iff (leb 1 T) (leb T 30)).0 e in good T (leb-true 1 T within.0) (leb-true T 30 within.1))
      (λ _. bad)

  horizon-cases : (value : List ℕ) → P (horizon_of value)
  unfolding horizon_of
  horizon-cases [] = bad
  horizon-cases (a ∷ []) = chosen P (is_digit a) (λ _. in-limits (a - 48)) (λ _. bad)
  horizon-cases (a ∷ b ∷ []) = chosen P (is_digit a && is_digit b && not (eqb a 48)) (λ _. in-limits (10 * (a - 48) + (b - 48))) (λ _. bad)
  horizon-cases (a ∷ b ∷ c ∷ bs) = bad

-- a literal of the names up to, not including, place high
module _ (names : List (List ℕ)) (low high : ℕ) (P : Option ℕ → Type 0) (bad : P none) (good : (c : ℕ) → c < 2 * high → P (some c)) where
  sort-cases : (sign : ℕ) → sign ≤ 1 → (o : Option ℕ) → P (in_sort low high sign o)
  sort-cases sign s none = bad
  sort-cases sign s (some i) =
      chosen P (leb low i && ltb i high)
      (λ e. let below = ltb-true i high ((and-iff (leb low i) (ltb i high)).0 e).1 in good (2 * i + sign) (omega arith))
      (λ _. bad)

  literal-cases : (x : List ℕ) → P (literal names low high x)
  unfolding literal
  literal-cases [] = bad
  literal-cases (b ∷ bs) =
      chosen P (eqb b hyphen) (λ _. sort-cases 1 (omega arith) (declared_at names bs))
      (λ _. sort-cases 0 (omega arith) (declared_at names (b ∷ bs)))

-- codes below a bound
abbrev pub Below : ℕ → List ℕ → Type 0
Below k cs = Each (λ c. c < k) cs

-- a list that is taken: so many codes, and below a bound
pub record Held (most k : ℕ) (cs : List ℕ) : Type 0 where
  pub few : length cs ≤ most
  pub below : Below k cs

module _ (names : List (List ℕ)) (low high most : ℕ) (P : Listed → Type 0) (many : P (lists.refused 5))
    (bad : P (lists.refused 6)) (good : (cs : List ℕ) → Held most (2 * high) cs → P (codes cs)) where
  items-cases : (xs : List (List ℕ)) (done : List ℕ) → Held most (2 * high) done → P (list_from names low high most done xs)
  items-cases [] done h = good done h
  items-cases (x ∷ xs) done h =
      chosen P (ltb (length done) most)
      (λ room. literal-cases names low high (λ o. P (added done o (λ more. list_from names low high most more xs))) bad
      (λ c b. items-cases xs (done ++ (c ∷ [])) (one_more c b (ltb-true (length done) most room))) x)
      (λ _. many)
    where
      one_more : (c : ℕ) → c < 2 * high → length done < most → Held most (2 * high) (done ++ (c ∷ []))
      one_more c b room =
          record {
            few = omega (arith, length-append done (c ∷ []));
            below = (each_append (λ c'. c' < 2 * high) done (c ∷ [])).1 (h.below, (b, tt));
          }

  pub list_cases : (value : List ℕ) → P (list_of names low high most value)
  unfolding list_of
  list_cases value = items-cases (items value) [] (record { few = omega arith; below = tt })

-- a law's head, where there are n fluents
head-cases : (names : List (List ℕ)) (n : ℕ) (P : Option Head → Type 0) → P none → ((h : Head) → head_fits n h ≡ true → P (some h))
    → (value : List ℕ) → P (read_head names n value)
unfolding read_head
head-cases names n P bad good value =
    chosen P (same_name value false_bytes) (λ _. good False refl)
    (λ _. literal-cases names 0 n (λ o. P (lit_head o)) bad (λ c b. good (Lit c) (lt-ltb c (2 * n) b)) value)

-- Lines

-- a draft with its horizon, and one with one more name
abbrev pub timed : Draft → ℕ → Draft
timed d T = record { horizon = T; fluents = d.fluents; names = d.names; laws = d.laws }

abbrev pub with_name : Draft → ℕ → List ℕ → Draft
with_name d fluents value = record { horizon = d.horizon; fluents = fluents; names = d.names ++ (value ∷ []); laws = d.laws }

-- P holds of each thing that a line with this value can come to, given what is known where something is due. A law that begins
-- has room
pub record Cases (lent : ℕ) (d : Draft) (value : List ℕ) (At : Due → Type 0) (P : Step → Type 0) : Type 0 where
  -- a further fluent is read as the first one is; what may follow the fluents or the actions may also stand at once
  pub further : At fluent_due → At first_fluent_due
  pub no-fluent : At fluent_due → At action_due
  pub no-action : At action_due → At law_due
  pub refusals : Each (λ k. P (step.refused k)) (2 ∷ 3 ∷ 4 ∷ 5 ∷ 6 ∷ [])
  pub horizon : At horizon_due → (T : ℕ) → 1 ≤ T → T ≤ 30 → P (next first_fluent_due (timed d T))
  pub fluent : At first_fluent_due → d.fluents < 24 → is_new d.names value ≡ true
      → P (next fluent_due (with_name d (suc d.fluents) value))
  pub action : At action_due → length d.names < d.fluents + 8 → is_new d.names value ≡ true
      → P (next action_due (with_name d d.fluents value))
  -- a law begins in full, of either kind, or is caused by what its list will say
  pub begins : At law_due → length d.laws < min 64 lent → (kind : Kind) (h : Head) → head_fits d.fluents h ≡ true
      → P (next (if_due (law_of kind h [] [])) d)
  pub causes : At law_due → length d.laws < min 64 lent → (h : Head) → head_fits d.fluents h ≡ true
      → P (next (by_due (law_of Dynamic h [] [])) d)
  -- a law is whole at once, by a literal or by a list
  pub default : At law_due → length d.laws < min 64 lent → (c : ℕ) → c < 2 * d.fluents → P (next law_due (whole d (default_law c)))
  pub inertial : At law_due → length d.laws < min 64 lent → (c : ℕ) → c < 2 * d.fluents → P (next law_due (whole d (inertial_law c)))
  pub nonexecutable : At law_due → length d.laws < min 64 lent → (cs : List ℕ) → Held 6 (2 * length d.names) cs
      → P (next law_due (whole d (nonexecutable_law cs)))
  -- the list of a law that has begun
  pub if-list : (l : Law) → At (if_due l) → (kind : Kind) (cs : List ℕ) → Held 6 (2 * d.fluents) cs → P (with_if d kind l.head cs)
  pub after_list : (l : Law) → At (after_due l) → (cs : List ℕ) → Held 6 (2 * length d.names) cs
      → P (next law_due (whole d (with_after l cs)))
  pub by-list : (l : Law) → At (by_due l) → (cs : List ℕ) → Held 6 (2 * length d.names) cs
      → P (next law_due (whole d (causes_law l.head cs)))
  pub ends : At law_due → P (finish d)

-- a choice of two tests
one_of : {Q : Type 0} (a b : Bool) → (a ≡ true → Q) → (b ≡ true → Q) → (a || b) ≡ true → Q
one_of a b f g e = ⊎_elim f g ((or-iff a b).0 e)

module _ (lent : ℕ) (d : Draft) (value : List ℕ) (At : Due → Type 0) (P : Step → Type 0) (k : Cases lent d value At P) where
  -- no room, and a value that can't be read
  full : P (step.refused 5)
  full = k.refusals.1.1.1.0

  unread : P (step.refused 6)
  unread = k.refusals.1.1.1.1.0

  name-line : (fits : Bool) (due : Due) (fluents : ℕ)
      → (fits ≡ true → is_new d.names value ≡ true → P (next due (with_name d fluents value)))
      → P (name_line fits due fluents d value)
  name-line fits due fluents good =
      chosen P fits (λ room. chosen P (is_new d.names value) (λ new. good room new) (λ _. k.refusals.1.1.0)) (λ _. full)

  fluent-line : At first_fluent_due → P (step.fluent_line d value)
  fluent-line a = name-line (ltb d.fluents 24) fluent_due (suc d.fluents) (λ room new. k.fluent a (ltb-true d.fluents 24 room) new)

  action-line : At action_due → P (step.action_line d value)
  action-line a =
      name-line (ltb (length d.names) (d.fluents + 8)) action_due d.fluents
      (λ room new. k.action a (ltb-true (length d.names) (d.fluents + 8) room) new)

  end_line_lem : At law_due → (bs : List ℕ) → P (end_line d bs)
  end_line_lem a [] = k.ends a
  end_line_lem a (b ∷ bs) = k.refusals.0

  -- a new law: there is room for it, or refusal 5
  with-room : (s : Step) → (length d.laws < min 64 lent → P s) → P (cond (room_for lent d) s (step.refused 5))
  with-room s good = chosen P (room_for lent d) (λ e. good (ltb-true (length d.laws) (min 64 lent) e)) (λ _. full)

  law-line : (due : Law → Due) (kind : Kind)
      → (length d.laws < min 64 lent → (h : Head) → head_fits d.fluents h ≡ true → P (next (due (law_of kind h [] [])) d))
      → P (step.law_line lent due d kind value)
  law-line due kind good = with-room _ (λ room. head-cases d.names d.fluents (λ o. P (begun due d kind o)) unread (good room) value)

  literal-line : (law : ℕ → Law) → (length d.laws < min 64 lent → (c : ℕ) → c < 2 * d.fluents → P (next law_due (whole d (law c))))
      → P (step.literal_line lent d law value)
  literal-line law good =
      with-room _ (λ room. literal-cases d.names 0 d.fluents (λ o. P (whole_by_literal d law o)) unread (good room) value)

  -- a list of literals of either sort makes a law whole
  any-list : (law : List ℕ → Law)
      → ((cs : List ℕ) → Held 6 (2 * length d.names) cs → P (next law_due (whole d (law cs))))
      → P (whole_by_list d law (any_list d value))
  any-list law good = list_cases d.names 0 (length d.names) 6 (λ o. P (whole_by_list d law o)) full unread good value

  module _ (key : ℕ) where
    -- a key that is the one looked for
    is : (due : Due) (wanted : ℕ) → P (key_line lent due d wanted value) → eqb key wanted ≡ true → P (key_line lent due d key value)
    is due wanted p e = subst (λ (j : ℕ). P (key_line lent due d j value)) (sym (eqb-true key wanted e)) p

    begun-law : (due : Due) → At law_due → starts_law key ≡ true → P (key_line lent due d key value)
    begun-law due a =
        one_of _ (eqb key nonexecutable_key)
        (one_of _ (eqb key causes_key)
        (one_of _ (eqb key inertial_key)
        (one_of _ (eqb key default_key)
        (one_of (eqb key static_key) (eqb key dynamic_key) (is due static_key (law-line if_due Static (λ room. k.begins a room Static)))
        (is due dynamic_key (law-line if_due Dynamic (λ room. k.begins a room Dynamic))))
        (is due default_key (literal-line default_law (k.default a))))
        (is due inertial_key (literal-line inertial_law (k.inertial a))))
        (is due causes_key (law-line by_due Dynamic (k.causes a))))
        (is due nonexecutable_key (with-room _ (λ room. any-list nonexecutable_law (k.nonexecutable a room))))

    end-of-laws : (due : Due) → At law_due → eqb key end_key ≡ true → P (key_line lent due d key value)
    end-of-laws due a = is due end_key (end_line_lem a value)

    new-action : (due : Due) → At action_due → eqb key action_key ≡ true → P (key_line lent due d key value)
    new-action due a = is due action_key (action-line a)

    by-due : (due : Due) → At due → allowed due key ≡ true → P (key_line lent due d key value)
    by-due horizon_due a = is horizon_due horizon_key (horizon-cases (λ o. P (horizon_line d o)) k.refusals.1.0 (k.horizon a) value)
    by-due first_fluent_due a = is first_fluent_due fluent_key (fluent-line a)
    by-due fluent_due a =
        let behind = k.no-fluent a in
        let law = k.no-action behind in
        one_of _ (eqb key end_key)
        (one_of _ (starts_law key)
        (one_of (eqb key fluent_key) (eqb key action_key) (is fluent_due fluent_key (fluent-line (k.further a)))
        (new-action fluent_due behind))
        (begun-law fluent_due law))
        (end-of-laws fluent_due law)
    by-due action_due a =
        let law = k.no-action a in
        one_of _ (eqb key end_key)
        (one_of (eqb key action_key) (starts_law key) (new-action action_due a) (begun-law action_due law))
        (end-of-laws action_due law)
    by-due law_due a = one_of (starts_law key) (eqb key end_key) (begun-law law_due a) (end-of-laws law_due a)
    by-due (if_due l) a =
        is (if_due l) if_key (list_cases d.names 0 d.fluents 6 (λ o. P (if_line d l o)) full unread (k.if-list l a l.kind) value)
    by-due (after_due l) a =
        is (after_due l) after_key
        (list_cases d.names 0 (length d.names) 6 (λ o. P (after_line d l o)) full unread (k.after_list l a) value)
    by-due (by_due l) a = is (by_due l) by_key (any-list (causes_law l.head) (k.by-list l a))

  -- what holds of all these holds of every line's step
  pub line-cases : (due : Due) (key : ℕ) → At due → P (line_step lent due d key value)
  unfolding line_step
  line-cases due key a = chosen P (allowed due key) (by-due key due a) (λ _. k.refusals.0)
