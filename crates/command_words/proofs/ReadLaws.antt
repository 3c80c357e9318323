-- What words are read as is what they ask for by the table.
use Rattle.std.proofs.Common.{ℕ, suc, ◌≡◌, ◌∙◌, Bool, true, false, cond, Option, Some, None, List, [], ◌∷◌, inl, inr}
use Rattle.std.proofs.Common.{length, refl, sym, ap, subst, arith}
use Rattle.std.specs.Prelude.{codes, ◌==◌}
use Rattle.std.specs.Option.{option_and_then, option_map}
use Rattle.std.specs.Str.{bytes_eq}
use Rattle.std.proofs.lemmas.Bool.{eqb-true}
use Rattle.std.proofs.lemmas.Option.{none-some, same_Some}
use Rattle.std.proofs.lemmas.Slice.Eq.{bytes_eq-Decides}
use Rattle.khe_base.specs.Digits.{long_number_of, number_of}
use Rattle.khe_base.specs.declared.limits.TheConstants.{BUDGET, CHAIN_MOVES, DIGITS, JOBS, MADE_EVENTS, WORKERS}
use Rattle.command_words.specs.Words.{Asked, after_by, all_by, archive_by, asked, asked_by, both_by, budget_by, chains_by}
use Rattle.command_words.specs.Words.{check_by, construct_by, construct_with, constructing, crew_by, depth_by}
use Rattle.command_words.specs.Words.{evaluating, job_by, jobs_by, made_by, make_by, making, match_by, match_with, matching}
use Rattle.command_words.specs.Words.{number_to, options_by, placed_by, repair_by, repair_with, repairing, run_by}
use Rattle.command_words.specs.Words.{running, script_by, scripted_by, scripting, shares_by, solve_by, solve_with, solving}
use Rattle.command_words.specs.Words.{told_by, workers_by, workers_of}
use Rattle.command_words.specs.Commands.{Said, asks_evaluate, check, construct, construct_repaired, evaluate, flag}
use Rattle.command_words.specs.Commands.{make, match_tasks, number, repair, scripted, solve, text}
use Rattle.command_words.specs.Table.{AreGiven, Given, HasNoReading, IsOf, IsReading, given_words}
use Rattle.command_words.proofs.NumberLaws.{AreDistinct, IsNumber, Must, Spells, in_pairs}
use Rattle.command_words.proofs.NumberLaws.{number_read, spells}

-- a choice, and a value that is made of another
chosen : {A : Type 0} (P : Type 0) (b : Bool) (x y : Option A) (a : A) → cond b x y ≡ Some a
    → (b ≡ true → x ≡ Some a → P) → (b ≡ false → y ≡ Some a → P) → P
chosen P true x y a e f g = f refl e
chosen P false x y a e f g = g refl e

mapped : {A B : Type 0} (P : Type 0) (f : A → B) (o : Option A) (b : B) → option_map f o ≡ Some b
    → ((x : A) → o ≡ Some x → f x ≡ b → P) → P
mapped P f None b e k = absurd (none-some b e)
mapped P f (Some x) b e k = k x refl (same_Some (f x) b e)

then_read : {A B : Type 0} (P : Type 0) (f : A → Option B) (o : Option A) (b : B) → option_and_then f o ≡ Some b
    → ((x : A) → o ≡ Some x → f x ≡ Some b → P) → P
then_read P f None b e k = absurd (none-some b e)
then_read P f (Some x) b e k = k x refl e

same_word : (name word : List ℕ) → bytes_eq name word ≡ true → word ≡ name
same_word name word e = sym ((bytes_eq-Decides name word).0 e)

-- the words after an archive's name that stand in the place of an evaluation
evaluate_of : (name : List ℕ) (more : List (List ℕ)) (given : List Given) (said : List (Option Said)) (a : Asked)
    → more ≡ given_words given → AreGiven evaluate.options given said → asks_evaluate (text name ∷ []) said ≡ Some a
    → IsOf evaluate (codes "evaluate" ∷ name ∷ more) a
evaluate_of name more given said a e h f =
    record {
      names = name ∷ [];
      given = given;
      words_are = ap (λ (w : List (List ℕ)). codes "evaluate" ∷ name ∷ w) e;
      said = text name ∷ [];
      names_say = (refl, tt);
      options_said = said;
      options_say = h;
      asks = f;
    }

-- beside how many workers, whether all monitors are asked for
abbrev pub with_all : Bool → ℕ → Bool × ℕ
with_all all n = (all, n)

-- how many workers are asked for
record IsCrew (all : Bool) (option value : List ℕ) (o : Bool × ℕ) : Type 0 where
  word : option ≡ codes "--workers"
  n : ℕ
  is : IsNumber WORKERS value n
  all_is : o.0 ≡ all

crew_read : (all : Bool) (option value : List ℕ) (o : Bool × ℕ) → workers_by all option value ≡ Some o
    → IsCrew all option value o
unfolding workers_by workers_of
crew_read all option value o e =
    chosen (IsCrew all option value o) (bytes_eq (codes "--workers") option)
    (option_map (with_all all) (number_to WORKERS value)) None o e
    (λ same f. mapped (IsCrew all option value o) (with_all all) (number_to WORKERS value) o f
    (λ n read made. record {
      word = same_word (codes "--workers") option same;
      n = n;
      is = number_read WORKERS value n read;
      all_is = sym (ap (λ (p : Bool × ℕ). p.0) made);
    }))
    (λ other f. absurd (none-some o f))

asks_all : (name : List ℕ) (all : Bool) (o : Bool × ℕ) (a : Asked) → o.0 ≡ all → evaluating name o.0 ≡ a
    → Some (evaluating name all) ≡ Some a
asks_all name all o a e f = ap (λ b. Some (evaluating name b)) (sym e) ∙ ap Some f

alone_given : (option : List ℕ) → Given
alone_given option = record { word = option; value = None }

option_given : (option value : List ℕ) → Given
option_given option value = record { word = option; value = Some value }

all_read : (name option : List ℕ) (o : Bool × ℕ) (a : Asked) → all_by option ≡ Some o → evaluating name o.0 ≡ a
    → IsOf evaluate (codes "evaluate" ∷ name ∷ option ∷ []) a
unfolding all_by alone_given
all_read name option o a e f =
    chosen (IsOf evaluate (codes "evaluate" ∷ name ∷ option ∷ []) a) (bytes_eq (codes "--all") option) (Some (true, 1))
    None o e
    (λ same g. evaluate_of name (option ∷ []) (alone_given option ∷ []) (Some flag ∷ None ∷ []) a refl
    ([], alone_given option, [], refl, same_word (codes "--all") option same, refl, (refl, refl))
    (asks_all name true o a (sym (ap (λ (p : Bool × ℕ). p.0) (same_Some {A = Bool × ℕ} (true, 1) o g))) f))
    (λ other g. absurd (none-some o g))

crew_alone : (name option value : List ℕ) (o : Bool × ℕ) (a : Asked) → workers_by false option value ≡ Some o
    → evaluating name o.0 ≡ a → IsOf evaluate (codes "evaluate" ∷ name ∷ option ∷ value ∷ []) a
unfolding option_given
crew_alone name option value o a e f =
    let crew = crew_read false option value o e in
    evaluate_of name (option ∷ value ∷ []) (option_given option value ∷ []) (None ∷ Some (number crew.n) ∷ []) a refl
    (refl, ([], option_given option value, [], refl, crew.word, (crew.n, refl, crew.is.writes, crew.is.least, crew.is.most), refl))
    (asks_all name false o a crew.all_is f)

all_first : (name first second third : List ℕ) (o : Bool × ℕ) (a : Asked) → first ≡ codes "--all"
    → workers_by true second third ≡ Some o → evaluating name o.0 ≡ a
    → IsOf evaluate (codes "evaluate" ∷ name ∷ first ∷ second ∷ third ∷ []) a
unfolding alone_given option_given
all_first name first second third o a w e f =
    let crew = crew_read true second third o e in
    evaluate_of name (first ∷ second ∷ third ∷ []) (alone_given first ∷ option_given second third ∷ [])
    (Some flag ∷ Some (number crew.n) ∷ []) a refl (
      [],
      alone_given first,
      option_given second third ∷ [],
      refl,
      w,
      refl,
      ([], option_given second third, [], refl, crew.word, (crew.n, refl, crew.is.writes, crew.is.least, crew.is.most), refl),
    )
    (asks_all name true o a crew.all_is f)

all_last : (name first second third : List ℕ) (o : Bool × ℕ) (a : Asked) → third ≡ codes "--all"
    → workers_by true first second ≡ Some o → evaluating name o.0 ≡ a
    → IsOf evaluate (codes "evaluate" ∷ name ∷ first ∷ second ∷ third ∷ []) a
unfolding alone_given option_given
all_last name first second third o a w e f =
    let crew = crew_read true first second o e in
    evaluate_of name (first ∷ second ∷ third ∷ []) (option_given first second ∷ alone_given third ∷ [])
    (Some flag ∷ Some (number crew.n) ∷ []) a refl (
      option_given first second ∷ [],
      alone_given third,
      [],
      refl,
      w,
      refl,
      ([], option_given first second, [], refl, crew.word, (crew.n, refl, crew.is.writes, crew.is.least, crew.is.most), refl),
    )
    (asks_all name true o a crew.all_is f)

both_read : (name first second third : List ℕ) (o : Bool × ℕ) (a : Asked) → both_by first second third ≡ Some o
    → evaluating name o.0 ≡ a → IsOf evaluate (codes "evaluate" ∷ name ∷ first ∷ second ∷ third ∷ []) a
unfolding both_by
both_read name first second third o a e f =
    let P : Type 0 = IsOf evaluate (codes "evaluate" ∷ name ∷ first ∷ second ∷ third ∷ []) a in
    chosen P (bytes_eq (codes "--all") first) (workers_by true second third)
    (cond (bytes_eq (codes "--all") third) (workers_by true first second) None) o e
    (λ same g. all_first name first second third o a (same_word (codes "--all") first same) g f)
    (λ other g. chosen P (bytes_eq (codes "--all") third) (workers_by true first second) None o g
    (λ same h. all_last name first second third o a (same_word (codes "--all") third same) h f)
    (λ none h. absurd (none-some o h)))

evaluate_read : (name : List ℕ) (more : List (List ℕ)) (o : Bool × ℕ) (a : Asked) → options_by more ≡ Some o
    → evaluating name o.0 ≡ a → IsOf evaluate (codes "evaluate" ∷ name ∷ more) a
evaluate_read name [] o a e f =
    evaluate_of name [] [] (None ∷ None ∷ []) a refl (refl, (refl, refl))
    (asks_all name false o a (sym (ap (λ (p : Bool × ℕ). p.0) (same_Some {A = Bool × ℕ} (false, 1) o e))) f)
evaluate_read name (option ∷ []) o a e f = all_read name option o a e f
evaluate_read name (option ∷ value ∷ []) o a e f = crew_alone name option value o a e f
evaluate_read name (first ∷ second ∷ third ∷ []) o a e f = both_read name first second third o a e f
evaluate_read name (first ∷ second ∷ third ∷ fourth ∷ more) o a e f = absurd (none-some o e)

-- a script
script_read : (word : List ℕ) (ties : Bool) (name : List ℕ) (more : List (List ℕ)) (a : Asked)
    → script_by ties name more ≡ Some a → IsOf (scripted word ties) (word ∷ name ∷ more) a
script_read word ties name [] a e = absurd (none-some a e)
script_read word ties name (solution ∷ []) a e = absurd (none-some a e)
script_read word ties name (solution ∷ file ∷ []) a e =
    mapped (IsOf (scripted word ties) (word ∷ name ∷ solution ∷ file ∷ []) a) (λ n. scripting name n file ties)
    (number_of DIGITS solution) a e
    (λ n writes made. record {
      names = name ∷ solution ∷ file ∷ [];
      given = [];
      words_are = refl;
      said = text name ∷ number n ∷ text file ∷ [];
      names_say = (refl, ((n, refl, writes), (refl, tt)));
      options_said = [];
      options_say = refl;
      asks = ap Some made;
    })
script_read word ties name (first ∷ second ∷ third ∷ more) a e = absurd (none-some a e)

check_read : (name : List ℕ) (more : List (List ℕ)) (a : Asked) → check_by name more ≡ Some a
    → IsOf check (codes "check" ∷ name ∷ more) a
check_read name [] a e =
    record {
      names = name ∷ [];
      given = [];
      words_are = refl;
      said = text name ∷ [];
      names_say = (refl, tt);
      options_said = [];
      options_say = refl;
      asks = e;
    }
check_read name (word ∷ more) a e = absurd (none-some a e)

match_read : (name : List ℕ) (more : List (List ℕ)) (a : Asked) → match_by name more ≡ Some a
    → IsOf match_tasks (codes "match" ∷ name ∷ more) a
unfolding match_with
match_read name [] a e = absurd (none-some a e)
match_read name (first ∷ []) a e = absurd (none-some a e)
match_read name (first ∷ second ∷ []) a e = absurd (none-some a e)
match_read name (solution ∷ time ∷ rtype ∷ []) a e =
    let P : Type 0 = IsOf match_tasks (codes "match" ∷ name ∷ solution ∷ time ∷ rtype ∷ []) a in
    then_read P
    (λ n. option_and_then (λ t. option_map (λ r. matching name n t r) (number_of DIGITS rtype)) (number_of DIGITS time))
    (number_of DIGITS solution) a e
    (λ n x f. then_read P (λ t. option_map (λ r. matching name n t r) (number_of DIGITS rtype)) (number_of DIGITS time) a
    f
    (λ t y g. mapped P (λ r. matching name n t r) (number_of DIGITS rtype) a g
    (λ r z made. record {
      names = name ∷ solution ∷ time ∷ rtype ∷ [];
      given = [];
      words_are = refl;
      said = text name ∷ number n ∷ number t ∷ number r ∷ [];
      names_say = (refl, ((n, refl, x), ((t, refl, y), ((r, refl, z), tt))));
      options_said = [];
      options_say = refl;
      asks = ap Some made;
    })))
match_read name (first ∷ second ∷ third ∷ fourth ∷ more) a e = absurd (none-some a e)

-- the options of repairs
abbrev pub chains : List Must
chains = (codes "--depth", CHAIN_MOVES) ∷ (codes "--budget", BUDGET) ∷ []

abbrev pub all_four : List Must
all_four = (codes "--depth", CHAIN_MOVES) ∷ (codes "--budget", BUDGET) ∷ (codes "--jobs", JOBS)
    ∷ (codes "--workers", WORKERS) ∷ []

pub distinct_chains : AreDistinct chains
distinct_chains = ((refl, tt), (tt, tt))

pub distinct_four : AreDistinct all_four
distinct_four = ((refl, (refl, (refl, tt))), ((refl, (refl, tt)), ((refl, tt), (tt, tt))))

chains_given : (options : List (List ℕ)) (d b : ℕ) → length options ≡ 4 → depth_by options ≡ Some d
    → budget_by options ≡ Some b → Spells chains options (Some (number d) ∷ Some (number b) ∷ [])
unfolding depth_by budget_by
chains_given options d b e x y =
    spells chains options (Some (number d) ∷ Some (number b) ∷ []) distinct_chains e
    (in_pairs (codes "--depth") CHAIN_MOVES options 2 d e x, (in_pairs (codes "--budget") BUDGET options 2 b e y, tt))

four_given : (options : List (List ℕ)) (d b j w : ℕ) → length options ≡ 8 → depth_by options ≡ Some d
    → budget_by options ≡ Some b → jobs_by options ≡ Some j → crew_by options ≡ Some w
    → Spells all_four options (Some (number d) ∷ Some (number b) ∷ Some (number j) ∷ Some (number w) ∷ [])
unfolding depth_by budget_by jobs_by crew_by
four_given options d b j w e x y z v =
    spells all_four options (Some (number d) ∷ Some (number b) ∷ Some (number j) ∷ Some (number w) ∷ []) distinct_four e (
      in_pairs (codes "--depth") CHAIN_MOVES options 4 d e x,
      (
        in_pairs (codes "--budget") BUDGET options 4 b e y,
        (in_pairs (codes "--jobs") JOBS options 4 j e z, (in_pairs (codes "--workers") WORKERS options 4 w e v, tt)),
      ),
    )

-- depth and budget, and jobs and workers
abbrev pub paired : Option ℕ → Option ℕ → Option (ℕ × ℕ)
paired o q = option_and_then (λ x. option_map (λ y. (x, y)) q) o

pair : ℕ → ℕ → ℕ × ℕ
pair x y = (x, y)

record AreBoth (o q : Option ℕ) (p : ℕ × ℕ) : Type 0 where
  first : o ≡ Some p.0
  second : q ≡ Some p.1

both_parts : (o q : Option ℕ) (p : ℕ × ℕ) → paired o q ≡ Some p → AreBoth o q p
unfolding pair
both_parts o q p e =
    then_read (AreBoth o q p) (λ x. option_map (pair x) q) o p e
    (λ x f g. mapped (AreBoth o q p) (pair x) q p g
    (λ y h made. record {
      first = f ∙ ap (λ (r : ℕ × ℕ). Some r.0) made;
      second = h ∙ ap (λ (r : ℕ × ℕ). Some r.1) made;
    }))

chains_read : (options : List (List ℕ)) (p : ℕ × ℕ) → chains_by options ≡ Some p
    → AreBoth (depth_by options) (budget_by options) p
unfolding chains_by
chains_read options p e = both_parts (depth_by options) (budget_by options) p e

shares_read : (options : List (List ℕ)) (p : ℕ × ℕ) → shares_by options ≡ Some p
    → AreBoth (jobs_by options) (crew_by options) p
unfolding shares_by
shares_read options p e = both_parts (jobs_by options) (crew_by options) p e

repair_of : (name solution : List ℕ) (n d b : ℕ) (options : List (List ℕ)) (a : Asked) → number_of DIGITS solution ≡ Some n
    → Spells chains options (Some (number d) ∷ Some (number b) ∷ []) → repairing name n d b ≡ a
    → IsOf repair (codes "repair" ∷ name ∷ solution ∷ options) a
repair_of name solution n d b options a writes s made =
    record {
      names = name ∷ solution ∷ [];
      given = s.given;
      words_are = ap (λ (w : List (List ℕ)). codes "repair" ∷ name ∷ solution ∷ w) s.words_are;
      said = text name ∷ number n ∷ [];
      names_say = (refl, ((n, refl, writes), tt));
      options_said = Some (number d) ∷ Some (number b) ∷ [];
      options_say = s.are;
      asks = ap Some made;
    }

repair_read : (name : List ℕ) (more : List (List ℕ)) (a : Asked) → repair_by name more ≡ Some a
    → IsOf repair (codes "repair" ∷ name ∷ more) a
unfolding repair_with
repair_read name [] a e = absurd (none-some a e)
repair_read name (solution ∷ options) a e =
    let P : Type 0 = IsOf repair (codes "repair" ∷ name ∷ solution ∷ options) a in
    then_read P (λ n. repair_with name n options) (number_of DIGITS solution) a e
    (λ n writes f. chosen P (length options == 4)
    (option_and_then (λ d. option_map (λ b. repairing name n d b) (budget_by options)) (depth_by options)) None a f
    (λ many g. then_read P (λ d. option_map (λ b. repairing name n d b) (budget_by options)) (depth_by options) a g
    (λ d x h. mapped P (λ b. repairing name n d b) (budget_by options) a h
    (λ b y made. repair_of name solution n d b options a writes
    (chains_given options d b (eqb-true (length options) 4 many) x y) made)))
    (λ other g. absurd (none-some a g)))

solve_of : (name solution : List ℕ) (n d b j w : ℕ) (options : List (List ℕ)) (a : Asked)
    → number_of DIGITS solution ≡ Some n
    → Spells all_four options (Some (number d) ∷ Some (number b) ∷ Some (number j) ∷ Some (number w) ∷ [])
    → solving name n d b j ≡ a → IsOf solve (codes "solve" ∷ name ∷ solution ∷ options) a
solve_of name solution n d b j w options a writes s made =
    record {
      names = name ∷ solution ∷ [];
      given = s.given;
      words_are = ap (λ (w : List (List ℕ)). codes "solve" ∷ name ∷ solution ∷ w) s.words_are;
      said = text name ∷ number n ∷ [];
      names_say = (refl, ((n, refl, writes), tt));
      options_said = Some (number d) ∷ Some (number b) ∷ Some (number j) ∷ Some (number w) ∷ [];
      options_say = s.are;
      asks = ap Some made;
    }

solve_read : (name : List ℕ) (more : List (List ℕ)) (a : Asked) → solve_by name more ≡ Some a
    → IsOf solve (codes "solve" ∷ name ∷ more) a
unfolding solve_with
solve_read name [] a e = absurd (none-some a e)
solve_read name (solution ∷ options) a e =
    let P : Type 0 = IsOf solve (codes "solve" ∷ name ∷ solution ∷ options) a in
    then_read P (λ n. solve_with name n options) (number_of DIGITS solution) a e
    (λ n writes f. chosen P (length options == 8)
    (option_and_then (λ (c : ℕ × ℕ). option_map (λ (s : ℕ × ℕ). solving name n c.0 c.1 s.0) (shares_by options))
    (chains_by options)) None a f
    (λ many g. then_read P (λ (c : ℕ × ℕ). option_map (λ (s : ℕ × ℕ). solving name n c.0 c.1 s.0) (shares_by options))
    (chains_by options) a g
    (λ c x h. mapped P (λ (s : ℕ × ℕ). solving name n c.0 c.1 s.0) (shares_by options) a h
    (λ s y made. let first = chains_read options c x in
    let second = shares_read options s y in
    solve_of name solution n c.0 c.1 s.0 s.1 options a writes
    (four_given options c.0 c.1 s.0 s.1 (eqb-true (length options) 8 many) first.first first.second second.first
    second.second) made)))
    (λ other g. absurd (none-some a g)))

-- a construction, which may be repaired
data IsConstruction (words : List (List ℕ)) (a : Asked) : Type 0 where
  bare : IsOf construct words a → IsConstruction words a
  repaired : IsOf construct_repaired words a → IsConstruction words a

no_options : (options : List (List ℕ)) → (length options == 0) ≡ true → options ≡ []
no_options [] e = refl
no_options (option ∷ options) e =
    absurd (let none : suc (length options) ≡ 0 = eqb-true (suc (length options)) 0 e in omega (arith, none))

bare_of : (name instance : List ℕ) (n : ℕ) (options : List (List ℕ)) (c : Option (ℕ × ℕ)) (a : Asked)
    → number_of DIGITS instance ≡ Some n → options ≡ [] → None ≡ c → constructing name n c ≡ a
    → IsConstruction (codes "construct" ∷ name ∷ instance ∷ options) a
bare_of name instance n options c a writes e f made =
    bare (record {
      names = name ∷ instance ∷ [];
      given = [];
      words_are = ap (λ (w : List (List ℕ)). codes "construct" ∷ name ∷ instance ∷ w) e;
      said = text name ∷ number n ∷ [];
      names_say = (refl, ((n, refl, writes), tt));
      options_said = [];
      options_say = refl;
      asks = ap (λ x. Some (constructing name n x)) f ∙ ap Some made;
    })

repaired_of : (name instance : List ℕ) (n : ℕ) (options : List (List ℕ)) (p : ℕ × ℕ) (c : Option (ℕ × ℕ)) (a : Asked)
    → number_of DIGITS instance ≡ Some n
    → Spells chains options (Some (number p.0) ∷ Some (number p.1) ∷ []) → Some p ≡ c → constructing name n c ≡ a
    → IsConstruction (codes "construct" ∷ name ∷ instance ∷ options) a
repaired_of name instance n options p c a writes s f made =
    repaired (record {
      names = name ∷ instance ∷ [];
      given = s.given;
      words_are = ap (λ (w : List (List ℕ)). codes "construct" ∷ name ∷ instance ∷ w) s.words_are;
      said = text name ∷ number n ∷ [];
      names_say = (refl, ((n, refl, writes), tt));
      options_said = Some (number p.0) ∷ Some (number p.1) ∷ [];
      options_say = s.are;
      asks = ap (λ x. Some (constructing name n x)) f ∙ ap Some made;
    })

after_read : (name instance : List ℕ) (n : ℕ) (options : List (List ℕ)) (c : Option (ℕ × ℕ)) (a : Asked)
    → number_of DIGITS instance ≡ Some n → after_by options ≡ Some c → constructing name n c ≡ a
    → IsConstruction (codes "construct" ∷ name ∷ instance ∷ options) a
unfolding after_by
after_read name instance n options c a writes e made =
    let P : Type 0 = IsConstruction (codes "construct" ∷ name ∷ instance ∷ options) a in
    chosen {A = Option (ℕ × ℕ)} P (length options == 0) (Some None)
    (cond (length options == 4) (option_map (λ p. Some p) (chains_by options)) None) c e
    (λ none f. bare_of name instance n options c a writes (no_options options none)
    (same_Some {A = Option (ℕ × ℕ)} None c f) made)
    (λ some f. chosen {A = Option (ℕ × ℕ)} P (length options == 4) (option_map (λ p. Some p) (chains_by options)) None c f
    (λ many g. mapped {A = ℕ × ℕ} {B = Option (ℕ × ℕ)} P (λ p. Some p) (chains_by options) c g
    (λ p x h. let both = chains_read options p x in
    repaired_of name instance n options p c a writes
    (chains_given options p.0 p.1 (eqb-true (length options) 4 many) both.first both.second) h made))
    (λ other g. absurd (none-some c g)))

construct_read : (name : List ℕ) (more : List (List ℕ)) (a : Asked) → construct_by name more ≡ Some a
    → IsConstruction (codes "construct" ∷ name ∷ more) a
unfolding construct_with
construct_read name [] a e = absurd (none-some a e)
construct_read name (instance ∷ options) a e =
    let P : Type 0 = IsConstruction (codes "construct" ∷ name ∷ instance ∷ options) a in
    then_read P (λ n. construct_with name n options) (number_of DIGITS instance) a e
    (λ n writes f. mapped P (λ c. constructing name n c) (after_by options) a f
    (λ c g made. after_read name instance n options c a writes g made))

-- what is made
record IsJob (seed size : List ℕ) (j : ℕ × ℕ) : Type 0 where
  seed_is : long_number_of seed ≡ Some j.0
  size_is : IsNumber MADE_EVENTS size j.1

job_read : (seed size : List ℕ) (j : ℕ × ℕ) → job_by seed size ≡ Some j → IsJob seed size j
unfolding job_by
job_read seed size j e =
    let both = both_parts (long_number_of seed) (number_to MADE_EVENTS size) j e in
    record { seed_is = both.first; size_is = number_read MADE_EVENTS size j.1 both.second }

make_of : (seed size : List ℕ) (more : List (List ℕ)) (j : ℕ × ℕ) (given : List Given) (said : List (Option Said))
    (a : Asked) → IsJob seed size j → more ≡ given_words given → AreGiven make.options given said
    → make.asks (number j.0 ∷ number j.1 ∷ []) said ≡ Some a → IsOf make (codes "make" ∷ seed ∷ size ∷ more) a
make_of seed size more j given said a job e h f =
    record {
      names = seed ∷ size ∷ [];
      given = given;
      words_are = ap (λ (w : List (List ℕ)). codes "make" ∷ seed ∷ size ∷ w) e;
      said = number j.0 ∷ number j.1 ∷ [];
      names_say = (
        (j.0, refl, job.seed_is),
        ((j.1, refl, job.size_is.writes, job.size_is.least, job.size_is.most), tt),
      );
      options_said = said;
      options_say = h;
      asks = f;
    }

made_read : (seed size : List ℕ) (a : Asked) → made_by seed size ≡ Some a
    → IsOf make (codes "make" ∷ seed ∷ size ∷ []) a
unfolding made_by
made_read seed size a e =
    mapped (IsOf make (codes "make" ∷ seed ∷ size ∷ []) a) (λ (j : ℕ × ℕ). making j.0 j.1) (job_by seed size) a e
    (λ j f made. make_of seed size [] j [] (None ∷ []) a (job_read seed size j f) refl (refl, refl) (ap Some made))

run_read : (seed size option : List ℕ) (a : Asked) → run_by seed size option ≡ Some a
    → IsOf make (codes "make" ∷ seed ∷ size ∷ option ∷ []) a
unfolding run_by alone_given
run_read seed size option a e =
    let P : Type 0 = IsOf make (codes "make" ∷ seed ∷ size ∷ option ∷ []) a in
    chosen P (bytes_eq (codes "--run") option) (option_map (λ (j : ℕ × ℕ). running j.0 j.1) (job_by seed size)) None a e
    (λ same f. mapped P (λ (j : ℕ × ℕ). running j.0 j.1) (job_by seed size) a f
    (λ j g made. make_of seed size (option ∷ []) j (alone_given option ∷ []) (Some flag ∷ []) a (job_read seed size j g)
    refl ([], alone_given option, [], refl, same_word (codes "--run") option same, refl, refl) (ap Some made)))
    (λ other f. absurd (none-some a f))

make_read : (seed : List ℕ) (more : List (List ℕ)) (a : Asked) → make_by seed more ≡ Some a
    → IsOf make (codes "make" ∷ seed ∷ more) a
make_read seed [] a e = absurd (none-some a e)
make_read seed (size ∷ []) a e = made_read seed size a e
make_read seed (size ∷ option ∷ []) a e = run_read seed size option a e
make_read seed (size ∷ option ∷ third ∷ more) a e = absurd (none-some a e)

-- by the command's word
by_word : (name command first : List ℕ) (more : List (List ℕ)) (a : Asked) → bytes_eq name command ≡ true
    → IsReading (name ∷ first ∷ more) a → IsReading (command ∷ first ∷ more) a
by_word name command first more a e h =
    subst (λ (w : List ℕ). IsReading (w ∷ first ∷ more) a) (sym (same_word name command e)) h

script_there : (command name : List ℕ) (more : List (List ℕ)) (a : Asked) → scripted_by command name more ≡ Some a
    → IsReading (command ∷ name ∷ more) a
unfolding scripted_by
script_there command name more a e =
    let P : Type 0 = IsReading (command ∷ name ∷ more) a in
    chosen P (bytes_eq (codes "script") command) (script_by false name more)
    (cond (bytes_eq (codes "tied") command) (script_by true name more) None) a e
    (λ same f. by_word (codes "script") command name more a same
    (inr (inl (script_read (codes "script") false name more a f))))
    (λ other f. chosen P (bytes_eq (codes "tied") command) (script_by true name more) None a f
    (λ same g. by_word (codes "tied") command name more a same
    (inr (inr (inl (script_read (codes "tied") true name more a g)))))
    (λ none g. absurd (none-some a g)))

told_there : (command name : List ℕ) (more : List (List ℕ)) (a : Asked) → told_by command name more ≡ Some a
    → IsReading (command ∷ name ∷ more) a
unfolding told_by
told_there command name more a e =
    let P : Type 0 = IsReading (command ∷ name ∷ more) a in
    chosen P (bytes_eq (codes "evaluate") command) (option_map (λ (o : Bool × ℕ). evaluating name o.0) (options_by more))
    (cond (bytes_eq (codes "check") command) (check_by name more) (scripted_by command name more)) a e
    (λ same f. by_word (codes "evaluate") command name more a same
    (inl (mapped (IsOf evaluate (codes "evaluate" ∷ name ∷ more) a) (λ (o : Bool × ℕ). evaluating name o.0)
    (options_by more) a f (λ o g made. evaluate_read name more o a g made))))
    (λ other f. chosen P (bytes_eq (codes "check") command) (check_by name more) (scripted_by command name more) a f
    (λ same g. by_word (codes "check") command name more a same (inr (inr (inr (inl (check_read name more a g))))))
    (λ none g. script_there command name more a g))

constructed_there : (words : List (List ℕ)) (a : Asked) → IsConstruction words a → IsReading words a
constructed_there words a (bare h) = inr (inr (inr (inr (inr (inr (inl h))))))
constructed_there words a (repaired h) = inr (inr (inr (inr (inr (inr (inr (inl h)))))))

placed_there : (command name : List ℕ) (more : List (List ℕ)) (a : Asked) → placed_by command name more ≡ Some a
    → IsReading (command ∷ name ∷ more) a
unfolding placed_by
placed_there command name more a e =
    let P : Type 0 = IsReading (command ∷ name ∷ more) a in
    chosen P (bytes_eq (codes "construct") command) (construct_by name more)
    (cond (bytes_eq (codes "match") command) (match_by name more) (told_by command name more)) a e
    (λ same f. by_word (codes "construct") command name more a same
    (constructed_there (codes "construct" ∷ name ∷ more) a (construct_read name more a f)))
    (λ other f. chosen P (bytes_eq (codes "match") command) (match_by name more) (told_by command name more) a f
    (λ same g. by_word (codes "match") command name more a same
    (inr (inr (inr (inr (inr (inr (inr (inr (inl (match_read name more a g)))))))))))
    (λ none g. told_there command name more a g))

archive_there : (command name : List ℕ) (more : List (List ℕ)) (a : Asked) → archive_by command name more ≡ Some a
    → IsReading (command ∷ name ∷ more) a
unfolding archive_by
archive_there command name more a e =
    let P : Type 0 = IsReading (command ∷ name ∷ more) a in
    chosen P (bytes_eq (codes "repair") command) (repair_by name more)
    (cond (bytes_eq (codes "solve") command) (solve_by name more) (placed_by command name more)) a e
    (λ same f. by_word (codes "repair") command name more a same
    (inr (inr (inr (inr (inl (repair_read name more a f)))))))
    (λ other f. chosen P (bytes_eq (codes "solve") command) (solve_by name more) (placed_by command name more) a f
    (λ same g. by_word (codes "solve") command name more a same
    (inr (inr (inr (inr (inr (inl (solve_read name more a g))))))))
    (λ none g. placed_there command name more a g))

any_there : (command first : List ℕ) (more : List (List ℕ)) (a : Asked) → asked_by command first more ≡ Some a
    → IsReading (command ∷ first ∷ more) a
unfolding asked_by
any_there command first more a e =
    chosen (IsReading (command ∷ first ∷ more) a) (bytes_eq (codes "make") command) (make_by first more)
    (archive_by command first more) a e
    (λ same f. by_word (codes "make") command first more a same
    (inr (inr (inr (inr (inr (inr (inr (inr (inr (inl (make_read first more a f))))))))))))
    (λ other f. archive_there command first more a f)

pub read_by_table : (words : List (List ℕ)) (a : Asked) → asked words ≡ Some a → IsReading words a
read_by_table [] a e = absurd (none-some a e)
read_by_table (command ∷ []) a e = absurd (none-some a e)
read_by_table (command ∷ first ∷ more) a e = any_there command first more a e

none_read : (words : List (List ℕ)) (o : Option Asked) → asked words ≡ o → HasNoReading words → o ≡ None
none_read words None e none = refl
none_read words (Some a) e none = absurd (none a (read_by_table words a e))

pub not_read : (words : List (List ℕ)) → HasNoReading words → asked words ≡ None
not_read words none = none_read words (asked words) refl none
