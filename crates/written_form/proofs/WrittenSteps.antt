-- What the description reader makes of each written line, and of lines one after another.
-- Assumes nothing.
use mathlib.Core.Path.{◌≡◌, refl, sym, ap, subst, ◌∙◌}
use mathlib.Core.Bool.{Bool, true, false, cond}
use mathlib.Core.List.{List, [], ◌∷◌, ◌++◌, append_assoc}
use mathlib.Core.Option.{none, some}
use Prim.Native.Nat.{ℕ, suc, ◌+◌, ◌/◌, ◌%◌, ◌≤◌, ◌<◌, min}
use native.Mathlib.Omega.{arith}
use borrow.Author.Tests.{lt-ltb, ne_eqb}
use lib.Dec.{eqb, ltb}
use lib.ListN.{length}
use Rattle.basics.specs.Search.{all, range}
use Rattle.basics.proofs.Tests.{not-both}
use Rattle.basics.specs.Replies.{answered}
use Rattle.action_language.specs.declared.Head.{Head}
use Rattle.action_language.specs.declared.Kind.{Kind}
use Rattle.action_language.specs.declared.Kind.TheVariants.{Static, Dynamic}
use Rattle.action_language.specs.declared.Law.{Law}
use Rattle.text_forms.specs.Bytes.{newline}
use Rattle.text_forms.specs.Lines.{horizon_key, fluent_key, action_key, static_key, dynamic_key, if_key, after_key, end_key, no_key}
use Rattle.text_forms.specs.Lines.{default_key, inertial_key, causes_key, by_key, nonexecutable_key}
use Rattle.spelling.specs.Spelling.{is_name}
use Rattle.text_forms.specs.Names.{declared_at, literal}
use Rattle.text_forms.specs.Lists.{codes}
use Rattle.written_form.specs.Writable.{draft}
use Rattle.line_values.specs.HorizonText.{horizon_of}
use Rattle.line_values.specs.ShortLaws.{default_law, inertial_law, causes_law, nonexecutable_law}
use Rattle.description_lines.specs.LineSteps.{Due, horizon_due, first_fluent_due, fluent_due, action_due, law_due, if_due}
use Rattle.description_lines.specs.LineSteps.{after_due, by_due, Draft, starts_law, allowed, next, finish}
use Rattle.description_lines.specs.LineSteps.{horizon_line, read_head, begun, law_line, whole, if_line, after_line}
use Rattle.description_lines.specs.LineSteps.{whole_by_literal, whole_by_list, literal_line, fluent_list, any_list, line_step}
use Rattle.action_language.specs.Laws.{law_of}
use Rattle.description_lines.specs.Descriptions.{read, after_step, after_first, lines_from}
use Rattle.written_form.specs.Writing.{line_text, horizon_text}
use Rattle.written_form.proofs.WrittenLines.{Lacks, answers, answers-some, passed-by, first-line}

-- the horizon, number by number

decimals : all (λ T. answers T (horizon_of (horizon_text T))) (range 1 30) ≡ true
unfolding horizon_of
decimals = refl

pub horizon-read : (T : ℕ) → 1 ≤ T → T ≤ 30 → horizon_of (horizon_text T) ≡ some T
horizon-read T one few =
    answers-some T (horizon_of (horizon_text T))
    (passed-by (λ t. answers t (horizon_of (horizon_text t))) 1 30 decimals T one (omega arith))

pub horizon-clean : (k : ℕ) → Lacks newline (horizon_text k)
horizon-clean k = go (ltb k 10)
  where
    digit : (i : ℕ) → eqb newline (48 + i) ≡ false
    digit i = ne_eqb newline (48 + i) (omega arith)

    go : (b : Bool) → Lacks newline (cond b ((48 + k) ∷ []) ((48 + k / 10) ∷ (48 + k % 10) ∷ []))
    go true = (digit k, tt)
    go false = (digit (k / 10), (digit (k % 10), tt))

-- lines

module _ (lent : ℕ) (due : Due) (d : Draft) where
  pub horizon-step : (T : ℕ) → 1 ≤ T → T ≤ 30 → allowed due horizon_key ≡ true
      → line_step lent due d horizon_key (horizon_text T) ≡ next first_fluent_due (draft T d.fluents d.names d.laws)
  unfolding line_step
  horizon-step T one few may = rw may (ap (horizon_line d) (horizon-read T one few))

  pub fluent-step : (x : List ℕ) → allowed due fluent_key ≡ true → d.fluents < 24 → is_name x ≡ true → declared_at d.names x ≡ none
      → line_step lent due d fluent_key x ≡ next fluent_due (draft d.horizon (suc d.fluents) (d.names ++ (x ∷ [])) d.laws)
  unfolding line_step
  fluent-step x may few name new = rw (may, lt-ltb d.fluents 24 few, name, new)

  pub action-step : (x : List ℕ) → allowed due action_key ≡ true → length d.names < d.fluents + 8 → is_name x ≡ true
      → declared_at d.names x ≡ none
      → line_step lent due d action_key x ≡ next action_due (draft d.horizon d.fluents (d.names ++ (x ∷ [])) d.laws)
  unfolding line_step
  action-step x may few name new = rw (may, lt-ltb (length d.names) (d.fluents + 8) few, name, new)

  -- a law begins: the list that follows its head is due
  begins : (later : Law → Due) (kind : Kind) (x : List ℕ) (h : Head) → length d.laws < min 64 lent
      → read_head d.names d.fluents x ≡ some h
      → law_line lent later d kind x ≡ next (later (law_of kind h [] [])) d
  begins later kind x h few head = rw (lt-ltb (length d.laws) (min 64 lent) few) (ap (begun later d kind) head)

  pub static_step : (x : List ℕ) (h : Head) → allowed due static_key ≡ true → length d.laws < min 64 lent
      → read_head d.names d.fluents x ≡ some h
      → line_step lent due d static_key x ≡ next (if_due (law_of Static h [] [])) d
  unfolding line_step
  static_step x h may few head = rw may (begins if_due Static x h few head)

  pub dynamic-step : (x : List ℕ) (h : Head) → allowed due dynamic_key ≡ true → length d.laws < min 64 lent
      → read_head d.names d.fluents x ≡ some h
      → line_step lent due d dynamic_key x ≡ next (if_due (law_of Dynamic h [] [])) d
  unfolding line_step
  dynamic-step x h may few head = rw may (begins if_due Dynamic x h few head)

  pub causes-step : (x : List ℕ) (h : Head) → allowed due causes_key ≡ true → length d.laws < min 64 lent
      → read_head d.names d.fluents x ≡ some h
      → line_step lent due d causes_key x ≡ next (by_due (law_of Dynamic h [] [])) d
  unfolding line_step
  causes-step x h may few head = rw may (begins by_due Dynamic x h few head)

  -- a law is whole behind its only line: of a literal, or of a list
  ends-law : (law : ℕ → Law) (x : List ℕ) (c : ℕ) → length d.laws < min 64 lent → literal d.names 0 d.fluents x ≡ some c
      → literal_line lent d law x ≡ next law_due (whole d (law c))
  ends-law law x c few is = rw (lt-ltb (length d.laws) (min 64 lent) few) (ap (whole_by_literal d law) is)

  pub default-step : (x : List ℕ) (c : ℕ) → allowed due default_key ≡ true → length d.laws < min 64 lent
      → literal d.names 0 d.fluents x ≡ some c
      → line_step lent due d default_key x ≡ next law_due (whole d (default_law c))
  unfolding line_step
  default-step x c may few is = rw may (ends-law default_law x c few is)

  pub inertial-step : (x : List ℕ) (c : ℕ) → allowed due inertial_key ≡ true → length d.laws < min 64 lent
      → literal d.names 0 d.fluents x ≡ some c
      → line_step lent due d inertial_key x ≡ next law_due (whole d (inertial_law c))
  unfolding line_step
  inertial-step x c may few is = rw may (ends-law inertial_law x c few is)

  pub nonexecutable-step : (x cs : List ℕ) → allowed due nonexecutable_key ≡ true → length d.laws < min 64 lent → any_list d x ≡ codes cs
      → line_step lent due d nonexecutable_key x ≡ next law_due (whole d (nonexecutable_law cs))
  unfolding line_step
  nonexecutable-step x cs may few list =
      rw (may, lt-ltb (length d.laws) (min 64 lent) few) (ap (whole_by_list d nonexecutable_law) list)

  pub end_step : allowed due end_key ≡ true → line_step lent due d end_key [] ≡ finish d
  unfolding line_step
  end_step may = rw may

-- the lists that follow a head
module _ (lent : ℕ) (d : Draft) (l : Law) (x cs : List ℕ) where
  pub if-step : fluent_list d x ≡ codes cs → line_step lent (if_due l) d if_key x ≡ if_line d l (codes cs)
  unfolding line_step
  if-step list = ap (if_line d l) list

  pub after-step : any_list d x ≡ codes cs → line_step lent (after_due l) d after_key x ≡ after_line d l (codes cs)
  unfolding line_step
  after-step list = ap (after_line d l) list

  pub by-step : any_list d x ≡ codes cs → line_step lent (by_due l) d by_key x ≡ next law_due (whole d (causes_law l.head cs))
  unfolding line_step
  by-step list = ap (whole_by_list d (causes_law l.head)) list

-- where one law may start, any may, in full or short
apart : (k j : ℕ) → starts_law k ≡ true → starts_law j ≡ false → eqb k j ≡ false
apart k j starts other = ne_eqb k j (λ e. not-both starts (subst (λ (i : ℕ). starts_law i ≡ false) (sym e) other))

pub starts : (due : Due) (k : ℕ) → starts_law k ≡ true → allowed due k ≡ allowed due static_key
starts horizon_due k is = apart k horizon_key is refl
starts first_fluent_due k is = apart k fluent_key is refl
starts fluent_due k is = rw (apart k fluent_key is refl, apart k action_key is refl, is)
starts action_due k is = rw (apart k action_key is refl, is)
starts law_due k is = rw is
starts (if_due l) k is = apart k if_key is refl
starts (after_due l) k is = apart k after_key is refl
starts (by_due l) k is = apart k by_key is refl

-- the lines of a text, s of them, take the reader from one draft to another, whatever follows
pub record Passes (lent s : ℕ) (text : List ℕ) (due : Due) (d : Draft) (due' : Due) (d' : Draft) : Type 0 where
  pub run : (k n : ℕ) (rest : List ℕ) → lines_from (s + k) lent n due d (text ++ rest) ≡ lines_from k lent (s + n) due' d' rest

one_more : (n : ℕ) → 1 + n ≡ suc n
one_more n = omega arith

module _ {lent : ℕ} where
  pub nothing-passes : (due : Due) (d : Draft) → Passes lent 0 [] due d due d
  nothing-passes due d = record {
    run = λ k n rest.
        let fuel : 0 + k ≡ k = omega arith in
        let lines : 0 + n ≡ n = omega arith in
        rw (fuel, lines);
  }

  pub line-passes : (due : Due) (d : Draft) (key : ℕ) (value : List ℕ) {due' : Due} {d' : Draft} → key < no_key → Lacks newline value
      → line_step lent due d key value ≡ next due' d' → Passes lent 1 (line_text key value) due d due' d'
  line-passes due d key value {due'} {d'} known clean e = record {
    run = λ k n rest.
        rw (one_more k, one_more n)
        (
        ap (λ first. after_first first lent due d n (λ due'' d'' rest'. lines_from k lent (suc n) due'' d'' rest'))
        (first-line key known value clean rest)
        ∙ ap (λ step. after_step step n rest (λ due'' d'' rest'. lines_from k lent (suc n) due'' d'' rest')) e
        );
  }

  pub then : {s t : ℕ} {a b : List ℕ} {due due' due'' : Due} {d d' d'' : Draft} → Passes lent s a due d due' d'
      → Passes lent t b due' d' due'' d''
      → (u : ℕ) → u ≡ s + t → Passes lent u (a ++ b) due d due'' d''
  then {s} {t} {a} {b} {due} {due'} {due''} {d} {d'} {d''} p q u e = record {
    run = λ k n rest.
        let fuel : u + k ≡ s + (t + k) = omega arith in
        let lines : t + (s + n) ≡ u + n = omega arith in
        ap (λ text. lines_from (u + k) lent n due d text) (append_assoc a b rest)
        ∙ ap (λ f. lines_from f lent n due d (a ++ (b ++ rest))) fuel
        ∙ p.run (t + k) n (b ++ rest)
        ∙ q.run k (s + n) rest
        ∙ ap (λ l. lines_from k lent l due'' d'' rest) lines;
  }

-- the end line
pub ends : (lent : ℕ) (due : Due) (d : Draft) → allowed due end_key ≡ true → (k n : ℕ) (rest : List ℕ)
    → lines_from (suc k) lent n due d (line_text end_key [] ++ rest) ≡ answered (read d rest n)
ends lent due d may k n rest =
    ap (λ first. after_first first lent due d n (λ due' d' rest'. lines_from k lent (suc n) due' d' rest'))
    (first-line end_key (omega arith) [] tt rest)
    ∙ ap (λ step. after_step step n rest (λ due' d' rest'. lines_from k lent (suc n) due' d' rest')) (end_step lent due d may)

-- what is due behind lines that each leave `later` due
abbrev pub due_behind : {A : Type 0} → Due → Due → List A → Due
due_behind due later [] = due
due_behind due later (x ∷ xs) = later

pub same-due : {A : Type 0} (due : Due) (xs : List A) → due_behind due due xs ≡ due
same-due due [] = refl
same-due due (x ∷ xs) = refl

pub later-due : {A : Type 0} (due later : Due) (xs : List A) → 1 ≤ length xs → due_behind due later xs ≡ later
later-due due later [] h = absurd (omega arith)
later-due due later (x ∷ xs) h = refl

pub may-behind : {A : Type 0} (due later : Due) (xs : List A) (k : ℕ) → allowed due k ≡ true → allowed later k ≡ true
    → allowed (due_behind due later xs) k ≡ true
may-behind due later [] k here there = here
may-behind due later (x ∷ xs) k here there = there
