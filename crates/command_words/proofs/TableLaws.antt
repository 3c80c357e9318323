-- What words ask for by the table is what they are read as.
use Rattle.std.proofs.Common.{ℕ, ◌≡◌, ◌+◌, ◌∙◌, Bool, true, false, cond, Option, Some, None, List, [], ◌∷◌, ◌++◌}
use Rattle.std.proofs.Common.{length, inl, inr, refl, sym, ap, ap₂}
use Rattle.std.specs.Prelude.{codes, ◌==◌}
use Rattle.std.specs.Option.{option_and_then, option_map}
use Rattle.std.proofs.lemmas.Option.{none-some}
use Rattle.khe_base.specs.Digits.{long_number_of, number_of}
use Rattle.khe_base.specs.declared.limits.TheConstants.{BUDGET, CHAIN_MOVES, DIGITS, JOBS, MADE_EVENTS, WORKERS}
use Rattle.command_words.specs.Words.{Asked, after_by, all_by, archive_by, asked, asked_by, both_by, budget_by, chains_by}
use Rattle.command_words.specs.Words.{checking, construct_with, constructing, crew_by, depth_by, evaluating, job_by, jobs_by}
use Rattle.command_words.specs.Words.{made_by, making, match_with, matching, number_to, options_by, placed_by, repair_with}
use Rattle.command_words.specs.Words.{repairing, run_by, running, scripted_by, scripting, shares_by, solve_with, solving}
use Rattle.command_words.specs.Words.{told_by, workers_by, workers_of}
use Rattle.command_words.specs.Commands.{Form, Said, any, asks_check, asks_construct, asks_evaluate, asks_make, asks_match}
use Rattle.command_words.specs.Commands.{asks_repair, asks_script, asks_solve, below, check, construct, construct_repaired}
use Rattle.command_words.specs.Commands.{digits, evaluate, make, match_tasks, number, repair, script, solve, text, tied}
use Rattle.command_words.specs.Commands.{up_to}
use Rattle.command_words.specs.Table.{AreGiven, Given, HasNoReading, IsOf, IsReading, Say, Says, SaysValue, given_words, with_value}
use Rattle.command_words.proofs.GivenLaws.{AllOf, HasValue, words_many}
use Rattle.command_words.proofs.NumberLaws.{IsNumber, all_valued, first_number, no_number, number_given}
use Rattle.command_words.proofs.NumberLaws.{number_kept, numbers_given, says_number}
use Rattle.command_words.proofs.ReadLaws.{all_four, chains, distinct_chains, distinct_four, paired, with_all}

-- the words in order, one after the other
record IsFirst (form : Form) (forms : List Form) (names : List (List ℕ)) (said : List Said) : Type 0 where
  word : List ℕ
  words : List (List ℕ)
  s : Said
  more : List Said
  names_are : names ≡ word ∷ words
  said_are : said ≡ s ∷ more
  says : Says form word s
  rest : Say forms words more

first : (form : Form) (forms : List Form) (names : List (List ℕ)) (said : List Said) → Say (form ∷ forms) names said
    → IsFirst form forms names said
first form forms [] [] h = absurd h
first form forms [] (s ∷ more) h = absurd h
first form forms (word ∷ words) [] h = absurd h
first form forms (word ∷ words) (s ∷ more) h =
    record {
      word = word;
      words = words;
      s = s;
      more = more;
      names_are = refl;
      said_are = refl;
      says = h.0;
      rest = h.1;
    }

last : (names : List (List ℕ)) (said : List Said) → Say [] names said → (names ≡ []) × (said ≡ [])
last [] [] h = (refl, refl)
last [] (s ∷ more) h = absurd h
last (word ∷ words) [] h = absurd h
last (word ∷ words) (s ∷ more) h = absurd h

-- an archive's name
record IsName (names : List (List ℕ)) (said : List Said) : Type 0 where
  name : List ℕ
  names_are : names ≡ name ∷ []
  said_are : said ≡ text name ∷ []

one_name : (names : List (List ℕ)) (said : List Said) → Say (any ∷ []) names said → IsName names said
one_name names said h =
    let f = first any [] names said h in
    let l = last f.words f.more f.rest in
    record {
      name = f.word;
      names_are = f.names_are ∙ ap (λ (w : List (List ℕ)). f.word ∷ w) l.0;
      said_are = f.said_are ∙ ap₂ (λ (s : Said) (m : List Said). s ∷ m) f.says l.1;
    }

-- and a number
record IsNumbered (names : List (List ℕ)) (said : List Said) : Type 0 where
  name : List ℕ
  word : List ℕ
  n : ℕ
  names_are : names ≡ name ∷ word ∷ []
  said_are : said ≡ text name ∷ number n ∷ []
  writes : number_of DIGITS word ≡ Some n

name_number : (names : List (List ℕ)) (said : List Said) → Say (any ∷ below ∷ []) names said → IsNumbered names said
name_number names said h =
    let f = first any (below ∷ []) names said h in
    let g = first below [] f.words f.more f.rest in
    let l = last g.words g.more g.rest in
    record {
      name = f.word;
      word = g.word;
      n = g.says.0;
      names_are = f.names_are
          ∙ ap (λ (w : List (List ℕ)). f.word ∷ w) (g.names_are ∙ ap (λ (w : List (List ℕ)). g.word ∷ w) l.0);
      said_are = f.said_are
          ∙ ap₂ (λ (s : Said) (m : List Said). s ∷ m) f.says
          (g.said_are ∙ ap₂ (λ (s : Said) (m : List Said). s ∷ m) g.says.1 l.1);
      writes = g.says.2;
    }

-- options that must be there
record AreChains (given : List Given) (said : List (Option Said)) : Type 0 where
  d : ℕ
  b : ℕ
  said_are : said ≡ Some (number d) ∷ Some (number b) ∷ []
  depth : depth_by (given_words given) ≡ Some d
  budget : budget_by (given_words given) ≡ Some b
  many : length (given_words given) ≡ 4

doubled : (given : List Given) (k : ℕ) → AllOf HasValue given → length given ≡ k → length (given_words given) ≡ k + k
doubled given k v e = words_many given v ∙ ap (λ n. n + n) e

two_numbers : (given : List Given) (said : List (Option Said)) → AreGiven construct_repaired.options given said
    → AreChains given said
unfolding depth_by budget_by
two_numbers given said h =
    let v = all_valued chains given said h in
    let found = numbers_given chains given said distinct_chains h in
    let x = first_number (codes "--depth", CHAIN_MOVES) ((codes "--budget", BUDGET) ∷ []) given said found.numbers in
    let y = first_number (codes "--budget", BUDGET) [] given x.later x.numbers in
    record {
      d = x.n;
      b = y.n;
      said_are = x.said_is
          ∙ ap (λ (m : List (Option Said)). Some (number x.n) ∷ m)
          (y.said_is ∙ ap (λ (m : List (Option Said)). Some (number y.n) ∷ m) (no_number given y.later y.numbers));
      depth = number_given (codes "--depth") CHAIN_MOVES given v ∙ x.is;
      budget = number_given (codes "--budget") BUDGET given v ∙ y.is;
      many = doubled given 2 v found.many;
    }

record AreFour (given : List Given) (said : List (Option Said)) : Type 0 where
  d : ℕ
  b : ℕ
  j : ℕ
  w : ℕ
  said_are : said ≡ Some (number d) ∷ Some (number b) ∷ Some (number j) ∷ Some (number w) ∷ []
  depth : depth_by (given_words given) ≡ Some d
  budget : budget_by (given_words given) ≡ Some b
  jobs : jobs_by (given_words given) ≡ Some j
  crew : crew_by (given_words given) ≡ Some w
  many : length (given_words given) ≡ 8

four_numbers : (given : List Given) (said : List (Option Said)) → AreGiven solve.options given said
    → AreFour given said
unfolding depth_by budget_by jobs_by crew_by
four_numbers given said h =
    let v = all_valued all_four given said h in
    let found = numbers_given all_four given said distinct_four h in
    let x = first_number (codes "--depth", CHAIN_MOVES)
    ((codes "--budget", BUDGET) ∷ (codes "--jobs", JOBS) ∷ (codes "--workers", WORKERS) ∷ []) given said found.numbers in
    let y = first_number (codes "--budget", BUDGET) ((codes "--jobs", JOBS) ∷ (codes "--workers", WORKERS) ∷ []) given
    x.later x.numbers in
    let z = first_number (codes "--jobs", JOBS) ((codes "--workers", WORKERS) ∷ []) given y.later y.numbers in
    let u = first_number (codes "--workers", WORKERS) [] given z.later z.numbers in
    record {
      d = x.n;
      b = y.n;
      j = z.n;
      w = u.n;
      said_are = x.said_is
          ∙ ap (λ (m : List (Option Said)). Some (number x.n) ∷ m)
          (y.said_is
          ∙ ap (λ (m : List (Option Said)). Some (number y.n) ∷ m)
          (z.said_is
          ∙ ap (λ (m : List (Option Said)). Some (number z.n) ∷ m)
          (u.said_is ∙ ap (λ (m : List (Option Said)). Some (number u.n) ∷ m) (no_number given u.later u.numbers))));
      depth = number_given (codes "--depth") CHAIN_MOVES given v ∙ x.is;
      budget = number_given (codes "--budget") BUDGET given v ∙ y.is;
      jobs = number_given (codes "--jobs") JOBS given v ∙ z.is;
      crew = number_given (codes "--workers") WORKERS given v ∙ u.is;
      many = doubled given 4 v found.many;
    }

-- no options
none_given : (given : List Given) (said : List (Option Said)) → AreGiven [] given said → (given ≡ []) × (said ≡ [])
none_given given [] h = (h, refl)
none_given given (s ∷ said) h = absurd h

-- what words after a command are read as
pair_of : (o q : Option ℕ) (x y : ℕ) → o ≡ Some x → q ≡ Some y → paired o q ≡ Some (x, y)
pair_of o q x y e f = ap (λ (v : Option ℕ). paired v q) e ∙ ap (λ (v : Option ℕ). paired (Some x) v) f

chains_asked : (options : List (List ℕ)) (d b : ℕ) → depth_by options ≡ Some d → budget_by options ≡ Some b
    → chains_by options ≡ Some (d, b)
unfolding chains_by
chains_asked options d b e f = pair_of (depth_by options) (budget_by options) d b e f

shares_asked : (options : List (List ℕ)) (j w : ℕ) → jobs_by options ≡ Some j → crew_by options ≡ Some w
    → shares_by options ≡ Some (j, w)
unfolding shares_by
shares_asked options j w e f = pair_of (jobs_by options) (crew_by options) j w e f

repair_asked : (name word : List ℕ) (n d b : ℕ) (options : List (List ℕ)) → number_of DIGITS word ≡ Some n
    → length options ≡ 4 → depth_by options ≡ Some d → budget_by options ≡ Some b
    → asked (codes "repair" ∷ name ∷ word ∷ options) ≡ Some (repairing name n d b)
unfolding asked_by archive_by repair_with
repair_asked name word n d b options writes many x y =
    ap (option_and_then (λ k. repair_with name k options)) writes
    ∙ ap (λ k. cond (k == 4)
    (option_and_then (λ p. option_map (λ q. repairing name n p q) (budget_by options)) (depth_by options)) None) many
    ∙ ap (option_and_then (λ p. option_map (λ q. repairing name n p q) (budget_by options))) x
    ∙ ap (option_map (λ q. repairing name n d q)) y

solve_asked : (name word : List ℕ) (n d b j w : ℕ) (options : List (List ℕ)) → number_of DIGITS word ≡ Some n
    → length options ≡ 8 → chains_by options ≡ Some (d, b) → shares_by options ≡ Some (j, w)
    → asked (codes "solve" ∷ name ∷ word ∷ options) ≡ Some (solving name n d b j)
unfolding asked_by archive_by solve_with
solve_asked name word n d b j w options writes many x y =
    ap (option_and_then (λ k. solve_with name k options)) writes
    ∙ ap (λ k. cond (k == 8)
    (option_and_then (λ (c : ℕ × ℕ). option_map (λ (s : ℕ × ℕ). solving name n c.0 c.1 s.0) (shares_by options))
    (chains_by options)) None) many
    ∙ ap (option_and_then (λ (c : ℕ × ℕ). option_map (λ (s : ℕ × ℕ). solving name n c.0 c.1 s.0) (shares_by options))) x
    ∙ ap (option_map (λ (s : ℕ × ℕ). solving name n d b s.0)) y

bare_asked : (name word : List ℕ) (n : ℕ) → number_of DIGITS word ≡ Some n
    → asked (codes "construct" ∷ name ∷ word ∷ []) ≡ Some (constructing name n None)
unfolding asked_by archive_by placed_by construct_with after_by
bare_asked name word n writes = ap (option_and_then (λ k. construct_with name k [])) writes

repaired_asked : (name word : List ℕ) (n d b : ℕ) (options : List (List ℕ)) → number_of DIGITS word ≡ Some n
    → length options ≡ 4 → chains_by options ≡ Some (d, b)
    → asked (codes "construct" ∷ name ∷ word ∷ options) ≡ Some (constructing name n (Some (d, b)))
unfolding asked_by archive_by placed_by construct_with after_by
repaired_asked name word n d b options writes many x =
    ap (option_and_then (λ k. construct_with name k options)) writes
    ∙ ap (λ k. option_map (λ c. constructing name n c) (cond (k == 0) (Some None)
    (cond (k == 4) (option_map (λ (c : ℕ × ℕ). Some c) (chains_by options)) None))) many
    ∙ ap (λ o. option_map (λ c. constructing name n c) (option_map (λ (c : ℕ × ℕ). Some c) o)) x

script_asked : (name word file : List ℕ) (n : ℕ) → number_of DIGITS word ≡ Some n
    → asked (codes "script" ∷ name ∷ word ∷ file ∷ []) ≡ Some (scripting name n file false)
unfolding asked_by archive_by placed_by told_by scripted_by
script_asked name word file n writes = ap (option_map (λ k. scripting name k file false)) writes

tied_asked : (name word file : List ℕ) (n : ℕ) → number_of DIGITS word ≡ Some n
    → asked (codes "tied" ∷ name ∷ word ∷ file ∷ []) ≡ Some (scripting name n file true)
unfolding asked_by archive_by placed_by told_by scripted_by
tied_asked name word file n writes = ap (option_map (λ k. scripting name k file true)) writes

check_asked : (name : List ℕ) → asked (codes "check" ∷ name ∷ []) ≡ Some (checking name)
unfolding asked_by archive_by placed_by told_by
check_asked name = refl

match_asked : (name solution time rtype : List ℕ) (n t r : ℕ) → number_of DIGITS solution ≡ Some n
    → number_of DIGITS time ≡ Some t → number_of DIGITS rtype ≡ Some r
    → asked (codes "match" ∷ name ∷ solution ∷ time ∷ rtype ∷ []) ≡ Some (matching name n t r)
unfolding asked_by archive_by placed_by match_with
match_asked name solution time rtype n t r x y z =
    ap (option_and_then (λ a. option_and_then (λ b. option_map (λ c. matching name a b c) (number_of DIGITS rtype))
    (number_of DIGITS time))) x
    ∙ ap (option_and_then (λ b. option_map (λ c. matching name n b c) (number_of DIGITS rtype))) y
    ∙ ap (option_map (λ c. matching name n t c)) z

evaluate_asked : (name : List ℕ) (options : List (List ℕ)) (all : Bool) (n : ℕ) → options_by options ≡ Some (all, n)
    → asked (codes "evaluate" ∷ name ∷ options) ≡ Some (evaluating name all)
unfolding asked_by archive_by placed_by told_by
evaluate_asked name options all n e = ap (option_map (λ (o : Bool × ℕ). evaluating name o.0)) e

job_asked : (seed size : List ℕ) (s n : ℕ) → long_number_of seed ≡ Some s → IsNumber MADE_EVENTS size n
    → job_by seed size ≡ Some (s, n)
unfolding job_by
job_asked seed size s n e h =
    pair_of (long_number_of seed) (number_to MADE_EVENTS size) s n e (number_kept MADE_EVENTS size n h)

made_asked : (seed size : List ℕ) (s n : ℕ) → job_by seed size ≡ Some (s, n)
    → asked (codes "make" ∷ seed ∷ size ∷ []) ≡ Some (making s n)
unfolding asked_by made_by
made_asked seed size s n e = ap (option_map (λ (j : ℕ × ℕ). making j.0 j.1)) e

run_asked : (seed size : List ℕ) (s n : ℕ) → job_by seed size ≡ Some (s, n)
    → asked (codes "make" ∷ seed ∷ size ∷ codes "--run" ∷ []) ≡ Some (running s n)
unfolding asked_by run_by
run_asked seed size s n e = ap (option_map (λ (j : ℕ × ℕ). running j.0 j.1)) e

-- by rows
by_repair : (words : List (List ℕ)) (a : Asked) → IsOf repair words a → asked words ≡ Some a
by_repair words a h =
    let m = name_number h.names h.said h.names_say in
    let o = two_numbers h.given h.options_said h.options_say in
    ap asked (h.words_are ∙ ap (λ (w : List (List ℕ)). codes "repair" ∷ (w ++ given_words h.given)) m.names_are)
    ∙ repair_asked m.name m.word m.n o.d o.b (given_words h.given) m.writes o.many o.depth o.budget
    ∙ sym (ap₂ asks_repair m.said_are o.said_are)
    ∙ h.asks

by_solve : (words : List (List ℕ)) (a : Asked) → IsOf solve words a → asked words ≡ Some a
by_solve words a h =
    let m = name_number h.names h.said h.names_say in
    let o = four_numbers h.given h.options_said h.options_say in
    ap asked (h.words_are ∙ ap (λ (w : List (List ℕ)). codes "solve" ∷ (w ++ given_words h.given)) m.names_are)
    ∙ solve_asked m.name m.word m.n o.d o.b o.j o.w (given_words h.given) m.writes o.many
    (chains_asked (given_words h.given) o.d o.b o.depth o.budget)
    (shares_asked (given_words h.given) o.j o.w o.jobs o.crew)
    ∙ sym (ap₂ asks_solve m.said_are o.said_are)
    ∙ h.asks

by_construct : (words : List (List ℕ)) (a : Asked) → IsOf construct words a → asked words ≡ Some a
by_construct words a h =
    let m = name_number h.names h.said h.names_say in
    let o = none_given h.given h.options_said h.options_say in
    ap asked
    (h.words_are
    ∙ ap₂ (λ (w : List (List ℕ)) (g : List Given). codes "construct" ∷ (w ++ given_words g)) m.names_are o.0)
    ∙ bare_asked m.name m.word m.n m.writes
    ∙ sym (ap₂ asks_construct m.said_are o.1)
    ∙ h.asks

by_repaired : (words : List (List ℕ)) (a : Asked) → IsOf construct_repaired words a → asked words ≡ Some a
by_repaired words a h =
    let m = name_number h.names h.said h.names_say in
    let o = two_numbers h.given h.options_said h.options_say in
    ap asked (h.words_are ∙ ap (λ (w : List (List ℕ)). codes "construct" ∷ (w ++ given_words h.given)) m.names_are)
    ∙ repaired_asked m.name m.word m.n o.d o.b (given_words h.given) m.writes o.many
    (chains_asked (given_words h.given) o.d o.b o.depth o.budget)
    ∙ sym (ap₂ asks_construct m.said_are o.said_are)
    ∙ h.asks

by_check : (words : List (List ℕ)) (a : Asked) → IsOf check words a → asked words ≡ Some a
by_check words a h =
    let m = one_name h.names h.said h.names_say in
    let o = none_given h.given h.options_said h.options_say in
    ap asked
    (h.words_are ∙ ap₂ (λ (w : List (List ℕ)) (g : List Given). codes "check" ∷ (w ++ given_words g)) m.names_are o.0)
    ∙ check_asked m.name
    ∙ sym (ap₂ asks_check m.said_are o.1)
    ∙ h.asks

-- an archive's name, a number and a script's name
record IsFile (names : List (List ℕ)) (said : List Said) : Type 0 where
  name : List ℕ
  word : List ℕ
  file : List ℕ
  n : ℕ
  names_are : names ≡ name ∷ word ∷ file ∷ []
  said_are : said ≡ text name ∷ number n ∷ text file ∷ []
  writes : number_of DIGITS word ≡ Some n

name_file : (names : List (List ℕ)) (said : List Said) → Say (any ∷ below ∷ any ∷ []) names said → IsFile names said
name_file names said h =
    let f = first any (below ∷ any ∷ []) names said h in
    let g = first below (any ∷ []) f.words f.more f.rest in
    let l = one_name g.words g.more g.rest in
    record {
      name = f.word;
      word = g.word;
      file = l.name;
      n = g.says.0;
      names_are = f.names_are
          ∙ ap (λ (w : List (List ℕ)). f.word ∷ w) (g.names_are ∙ ap (λ (w : List (List ℕ)). g.word ∷ w) l.names_are);
      said_are = f.said_are
          ∙ ap₂ (λ (s : Said) (m : List Said). s ∷ m) f.says
          (g.said_are ∙ ap₂ (λ (s : Said) (m : List Said). s ∷ m) g.says.1 l.said_are);
      writes = g.says.2;
    }

by_script : (words : List (List ℕ)) (a : Asked) → IsOf script words a → asked words ≡ Some a
by_script words a h =
    let m = name_file h.names h.said h.names_say in
    let o = none_given h.given h.options_said h.options_say in
    ap asked
    (h.words_are ∙ ap₂ (λ (w : List (List ℕ)) (g : List Given). codes "script" ∷ (w ++ given_words g)) m.names_are o.0)
    ∙ script_asked m.name m.word m.file m.n m.writes
    ∙ sym (ap₂ (asks_script false) m.said_are o.1)
    ∙ h.asks

by_tied : (words : List (List ℕ)) (a : Asked) → IsOf tied words a → asked words ≡ Some a
by_tied words a h =
    let m = name_file h.names h.said h.names_say in
    let o = none_given h.given h.options_said h.options_say in
    ap asked
    (h.words_are ∙ ap₂ (λ (w : List (List ℕ)) (g : List Given). codes "tied" ∷ (w ++ given_words g)) m.names_are o.0)
    ∙ tied_asked m.name m.word m.file m.n m.writes
    ∙ sym (ap₂ (asks_script true) m.said_are o.1)
    ∙ h.asks

-- an archive's name and three numbers
record IsMatched (names : List (List ℕ)) (said : List Said) : Type 0 where
  name : List ℕ
  solution : List ℕ
  time : List ℕ
  rtype : List ℕ
  n : ℕ
  t : ℕ
  r : ℕ
  names_are : names ≡ name ∷ solution ∷ time ∷ rtype ∷ []
  said_are : said ≡ text name ∷ number n ∷ number t ∷ number r ∷ []
  solution_is : number_of DIGITS solution ≡ Some n
  time_is : number_of DIGITS time ≡ Some t
  rtype_is : number_of DIGITS rtype ≡ Some r

three_numbers : (names : List (List ℕ)) (said : List Said) → Say (any ∷ below ∷ below ∷ below ∷ []) names said
    → IsMatched names said
three_numbers names said h =
    let f = first any (below ∷ below ∷ below ∷ []) names said h in
    let g = first below (below ∷ below ∷ []) f.words f.more f.rest in
    let i = first below (below ∷ []) g.words g.more g.rest in
    let k = first below [] i.words i.more i.rest in
    let l = last k.words k.more k.rest in
    record {
      name = f.word;
      solution = g.word;
      time = i.word;
      rtype = k.word;
      n = g.says.0;
      t = i.says.0;
      r = k.says.0;
      names_are = f.names_are
          ∙ ap (λ (w : List (List ℕ)). f.word ∷ w)
          (g.names_are
          ∙ ap (λ (w : List (List ℕ)). g.word ∷ w)
          (i.names_are
          ∙ ap (λ (w : List (List ℕ)). i.word ∷ w) (k.names_are ∙ ap (λ (w : List (List ℕ)). k.word ∷ w) l.0)));
      said_are = f.said_are
          ∙ ap₂ (λ (s : Said) (m : List Said). s ∷ m) f.says
          (g.said_are
          ∙ ap₂ (λ (s : Said) (m : List Said). s ∷ m) g.says.1
          (i.said_are
          ∙ ap₂ (λ (s : Said) (m : List Said). s ∷ m) i.says.1
          (k.said_are ∙ ap₂ (λ (s : Said) (m : List Said). s ∷ m) k.says.1 l.1)));
      solution_is = g.says.2;
      time_is = i.says.2;
      rtype_is = k.says.2;
    }

by_match : (words : List (List ℕ)) (a : Asked) → IsOf match_tasks words a → asked words ≡ Some a
by_match words a h =
    let m = three_numbers h.names h.said h.names_say in
    let o = none_given h.given h.options_said h.options_say in
    ap asked
    (h.words_are ∙ ap₂ (λ (w : List (List ℕ)) (g : List Given). codes "match" ∷ (w ++ given_words g)) m.names_are o.0)
    ∙ match_asked m.name m.solution m.time m.rtype m.n m.t m.r m.solution_is m.time_is m.rtype_is
    ∙ sym (ap₂ asks_match m.said_are o.1)
    ∙ h.asks

-- one option alone: nothing else is given
alone_there : (before after : List Given) (g : Given) → before ++ after ≡ [] → before ++ (g ∷ after) ≡ g ∷ []
alone_there [] after g e = ap (λ (l : List Given). g ∷ l) e
alone_there (b ∷ before) after g e = cc

one_word : (g : Given) (word : List ℕ) → g.word ≡ word → g.value ≡ None → given_words (g ∷ []) ≡ word ∷ []
one_word g word e f = ap₂ (λ (w : List ℕ) (v : Option (List ℕ)). w ∷ with_value v []) e f

two_words : (g : Given) (word value : List ℕ) → g.word ≡ word → g.value ≡ Some value
    → given_words (g ∷ []) ≡ word ∷ value ∷ []
two_words g word value e f = ap₂ (λ (w : List ℕ) (v : Option (List ℕ)). w ∷ with_value v []) e f

no_value : (value : Option (List ℕ)) (s : Said) → SaysValue None value s → value ≡ None
no_value None s h = refl
no_value (Some word) s h = absurd h

-- a seed and a size, and whether a run is asked for
record IsJob (names : List (List ℕ)) (said : List Said) : Type 0 where
  seed : List ℕ
  size : List ℕ
  s : ℕ
  n : ℕ
  names_are : names ≡ seed ∷ size ∷ []
  said_are : said ≡ number s ∷ number n ∷ []
  job : job_by seed size ≡ Some (s, n)

seed_size : (names : List (List ℕ)) (said : List Said) → Say (digits ∷ up_to MADE_EVENTS ∷ []) names said
    → IsJob names said
seed_size names said h =
    let f = first digits (up_to MADE_EVENTS ∷ []) names said h in
    let g = first (up_to MADE_EVENTS) [] f.words f.more f.rest in
    let l = last g.words g.more g.rest in
    record {
      seed = f.word;
      size = g.word;
      s = f.says.0;
      n = g.says.0;
      names_are = f.names_are
          ∙ ap (λ (w : List (List ℕ)). f.word ∷ w) (g.names_are ∙ ap (λ (w : List (List ℕ)). g.word ∷ w) l.0);
      said_are = f.said_are
          ∙ ap₂ (λ (s : Said) (m : List Said). s ∷ m) f.says.1
          (g.said_are ∙ ap₂ (λ (s : Said) (m : List Said). s ∷ m) g.says.1 l.1);
      job = job_asked f.word g.word f.says.0 g.says.0 f.says.2
          (record { writes = g.says.2; least = g.says.3; most = g.says.4 });
    }

make_by_said : (given : List Given) (said : List (Option Said)) (seed size : List ℕ) (s n : ℕ) (a : Asked)
    → job_by seed size ≡ Some (s, n) → AreGiven make.options given said
    → asks_make (number s ∷ number n ∷ []) said ≡ Some a
    → asked (codes "make" ∷ seed ∷ size ∷ given_words given) ≡ Some a
make_by_said given [] seed size s n a job h e = absurd h
make_by_said given (None ∷ []) seed size s n a job h e =
    ap (λ (g : List Given). asked (codes "make" ∷ seed ∷ size ∷ given_words g)) h.1 ∙ made_asked seed size s n job ∙ e
make_by_said given (Some x ∷ []) seed size s n a job (before, g, after, f, w, v, rest) e =
    ap (λ (o : List (List ℕ)). asked (codes "make" ∷ seed ∷ size ∷ o))
    (ap given_words (f ∙ alone_there before after g rest) ∙ one_word g (codes "--run") w (no_value g.value x v))
    ∙ run_asked seed size s n job
    ∙ e
make_by_said given (None ∷ x ∷ said) seed size s n a job h e = absurd h.1
make_by_said given (Some x ∷ y ∷ said) seed size s n a job (before, g, after, f, w, v, rest) e = absurd rest

by_make : (words : List (List ℕ)) (a : Asked) → IsOf make words a → asked words ≡ Some a
by_make words a h =
    let m = seed_size h.names h.said h.names_say in
    ap asked (h.words_are ∙ ap (λ (w : List (List ℕ)). codes "make" ∷ (w ++ given_words h.given)) m.names_are)
    ∙ make_by_said h.given h.options_said m.seed m.size m.s m.n a m.job h.options_say
    (ap (λ (l : List Said). asks_make l h.options_said) (sym m.said_are) ∙ h.asks)

-- the options of a report
record AreReported (given : List Given) (said : List (Option Said)) : Type 0 where
  all : Bool
  n : ℕ
  options : options_by (given_words given) ≡ Some (all, n)
  asks : (name : List ℕ) → asks_evaluate (text name ∷ []) said ≡ Some (evaluating name all)

crew_said : (all : Bool) (value : List ℕ) (n : ℕ) → IsNumber WORKERS value n
    → workers_by all (codes "--workers") value ≡ Some (all, n)
unfolding workers_by workers_of
crew_said all value n h = ap (option_map (with_all all)) (number_kept WORKERS value n h)

only_all : options_by (codes "--all" ∷ []) ≡ Some (true, 1)
unfolding all_by
only_all = refl

only_crew : (value : List ℕ) (n : ℕ) → IsNumber WORKERS value n
    → options_by (codes "--workers" ∷ value ∷ []) ≡ Some (false, n)
only_crew value n h = crew_said false value n h

all_before : (value : List ℕ) (n : ℕ) → IsNumber WORKERS value n
    → options_by (codes "--all" ∷ codes "--workers" ∷ value ∷ []) ≡ Some (true, n)
unfolding both_by
all_before value n h = crew_said true value n h

all_after : (value : List ℕ) (n : ℕ) → IsNumber WORKERS value n
    → options_by (codes "--workers" ∷ value ∷ codes "--all" ∷ []) ≡ Some (true, n)
unfolding both_by
all_after value n h = crew_said true value n h

-- two options in either order
data IsOrder (given : List Given) (g h : Given) : Type 0 where
  this : given ≡ g ∷ h ∷ [] → IsOrder given g h
  other : given ≡ h ∷ g ∷ [] → IsOrder given g h

either_order : (before after : List Given) (g h : Given) → before ++ after ≡ h ∷ []
    → IsOrder (before ++ (g ∷ after)) g h
either_order [] after g h e = this (ap (λ (l : List Given). g ∷ l) e)
either_order (b ∷ []) after g h e =
    let first : b ≡ h = cc in
    let none : after ≡ [] = cc in
    other (ap₂ (λ (x : Given) (l : List Given). x ∷ g ∷ l) first none)
either_order (b ∷ c ∷ before) after g h e = cc

both_words : (g h : Given) (first second value : List ℕ) → g.word ≡ first → g.value ≡ None → h.word ≡ second
    → h.value ≡ Some value → given_words (g ∷ h ∷ []) ≡ first ∷ second ∷ value ∷ []
both_words g h first second value x y z u =
    ap₂ (λ (w : List ℕ) (v : Option (List ℕ)). w ∷ with_value v (given_words (h ∷ []))) x y
    ∙ ap (λ (l : List (List ℕ)). first ∷ l) (two_words h second value z u)

both_other : (g h : Given) (first second value : List ℕ) → g.word ≡ first → g.value ≡ None → h.word ≡ second
    → h.value ≡ Some value → given_words (h ∷ g ∷ []) ≡ second ∷ value ∷ first ∷ []
both_other g h first second value x y z u =
    ap₂ (λ (w : List ℕ) (v : Option (List ℕ)). w ∷ with_value v (given_words (g ∷ []))) z u
    ∙ ap (λ (l : List (List ℕ)). second ∷ value ∷ l) (one_word g first x y)

by_order : (given : List Given) (g h : Given) (value : List ℕ) (n : ℕ) → IsOrder given g h → g.word ≡ codes "--all"
    → g.value ≡ None → h.word ≡ codes "--workers" → h.value ≡ Some value → IsNumber WORKERS value n
    → options_by (given_words given) ≡ Some (true, n)
by_order given g h value n (this e) x y z u is =
    ap options_by (ap given_words e ∙ both_words g h (codes "--all") (codes "--workers") value x y z u)
    ∙ all_before value n is
by_order given g h value n (other e) x y z u is =
    ap options_by (ap given_words e ∙ both_other g h (codes "--all") (codes "--workers") value x y z u)
    ∙ all_after value n is

reported : (given : List Given) (said : List (Option Said)) → AreGiven evaluate.options given said
    → AreReported given said
reported given [] h = absurd h
reported given (None ∷ []) h = absurd h.1
reported given (Some x ∷ []) (before, g, after, e, w, v, rest) = absurd rest
reported given (None ∷ None ∷ []) h =
    record { all = false; n = 1; options = ap (λ (l : List Given). options_by (given_words l)) h.1.1; asks = λ name. refl }
reported given (None ∷ Some y ∷ []) (free, (before, g, after, e, w, v, rest)) =
    let crew = says_number WORKERS g.value y v in
    record {
      all = false;
      n = crew.n;
      options = ap options_by
          (ap given_words (e ∙ alone_there before after g rest)
          ∙ two_words g (codes "--workers") crew.word w crew.value_is)
          ∙ only_crew crew.word crew.n crew.is;
      asks = λ name. refl;
    }
reported given (Some x ∷ None ∷ []) (before, g, after, e, w, v, rest) =
    record {
      all = true;
      n = 1;
      options = ap options_by
          (ap given_words (e ∙ alone_there before after g rest.1) ∙ one_word g (codes "--all") w (no_value g.value x v))
          ∙ only_all;
      asks = λ name. refl;
    }
reported given (Some x ∷ Some y ∷ []) (before, g, after, e, w, v, (front, h, back, f, z, u, rest)) =
    let crew = says_number WORKERS h.value y u in
    let order = either_order before after g h (f ∙ alone_there front back h rest) in
    record {
      all = true;
      n = crew.n;
      options = ap (λ (l : List Given). options_by (given_words l)) e
          ∙ by_order (before ++ (g ∷ after)) g h crew.word crew.n order w (no_value g.value x v) z crew.value_is crew.is;
      asks = λ name. refl;
    }
reported given (None ∷ None ∷ y ∷ said) h = absurd h.1.1
reported given (None ∷ Some x ∷ y ∷ said) (free, (before, g, after, e, w, v, rest)) = absurd rest
reported given (Some x ∷ None ∷ y ∷ said) (before, g, after, e, w, v, rest) = absurd rest.1
reported given (Some x ∷ Some z ∷ y ∷ said) (before, g, after, e, w, v, (front, h, back, f, t, u, rest)) = absurd rest

by_evaluate : (words : List (List ℕ)) (a : Asked) → IsOf evaluate words a → asked words ≡ Some a
by_evaluate words a h =
    let m = one_name h.names h.said h.names_say in
    let o = reported h.given h.options_said h.options_say in
    ap asked (h.words_are ∙ ap (λ (w : List (List ℕ)). codes "evaluate" ∷ (w ++ given_words h.given)) m.names_are)
    ∙ evaluate_asked m.name (given_words h.given) o.all o.n o.options
    ∙ sym (ap (λ (l : List Said). asks_evaluate l h.options_said) m.said_are ∙ o.asks m.name)
    ∙ h.asks

pub asked_by_table : (words : List (List ℕ)) (a : Asked) → IsReading words a → asked words ≡ Some a
asked_by_table words a (inl h) = by_evaluate words a h
asked_by_table words a (inr (inl h)) = by_script words a h
asked_by_table words a (inr (inr (inl h))) = by_tied words a h
asked_by_table words a (inr (inr (inr (inl h)))) = by_check words a h
asked_by_table words a (inr (inr (inr (inr (inl h))))) = by_repair words a h
asked_by_table words a (inr (inr (inr (inr (inr (inl h)))))) = by_solve words a h
asked_by_table words a (inr (inr (inr (inr (inr (inr (inl h))))))) = by_construct words a h
asked_by_table words a (inr (inr (inr (inr (inr (inr (inr (inl h)))))))) = by_repaired words a h
asked_by_table words a (inr (inr (inr (inr (inr (inr (inr (inr (inl h))))))))) = by_match words a h
asked_by_table words a (inr (inr (inr (inr (inr (inr (inr (inr (inr (inl h)))))))))) = by_make words a h
asked_by_table words a (inr (inr (inr (inr (inr (inr (inr (inr (inr (inr none)))))))))) = absurd none

-- and words that ask for nothing are not read
pub unread : (words : List (List ℕ)) → asked words ≡ None → HasNoReading words
unread words e = λ a h. none-some a (sym e ∙ asked_by_table words a h)
