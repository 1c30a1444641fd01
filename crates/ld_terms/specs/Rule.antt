-- The rules by which a record says that an equality or a judgement follows.
use Rattle.std.specs.Prelude.{ℕ, List, [], ◌∷◌, length}

-- a rule with the numbers of its premises: equalities (e), nodes (n)
pub data EqRule : Type 0 where
  Refl : EqRule
  Sym : (e : ℕ) → EqRule
  Trans : (e e' : ℕ) → EqRule
  Beta : EqRule
  Delta : EqRule
  App : (e e' : ℕ) → EqRule
  Lam : (e e' : ℕ) → EqRule
  Pi : (e e' : ℕ) → EqRule
  Const : (es : List ℕ) → EqRule

pub data Rule : Type 0 where
  Sort : Rule
  Var : (n : ℕ) → Rule
  Weak : (n n' : ℕ) → Rule
  Form : (n n' : ℕ) → Rule
  Appl : (n n' : ℕ) → Rule
  Abst : (n n' : ℕ) → Rule
  Conv : (n n' e : ℕ) → Rule
  Def : (n : ℕ) → Rule
  DefPrim : (n : ℕ) → Rule
  Inst : (n : ℕ) (ns : List ℕ) → Rule
  InstPrim : (n : ℕ) (ns : List ℕ) → Rule

-- a list of numbers behind its length
abbrev pub counted : List ℕ → List ℕ
counted ns = length ns ∷ ns

abbrev pub equal_numbers : EqRule → List ℕ
equal_numbers Refl = []
equal_numbers (Sym e) = e ∷ []
equal_numbers (Trans e e') = e ∷ e' ∷ []
equal_numbers Beta = []
equal_numbers Delta = []
equal_numbers (App e e') = e ∷ e' ∷ []
equal_numbers (Lam e e') = e ∷ e' ∷ []
equal_numbers (Pi e e') = e ∷ e' ∷ []
equal_numbers (Const es) = counted es

abbrev pub rule_numbers : Rule → List ℕ
rule_numbers Sort = []
rule_numbers (Var n) = n ∷ []
rule_numbers (Weak n n') = n ∷ n' ∷ []
rule_numbers (Form n n') = n ∷ n' ∷ []
rule_numbers (Appl n n') = n ∷ n' ∷ []
rule_numbers (Abst n n') = n ∷ n' ∷ []
rule_numbers (Conv n n' e) = n ∷ n' ∷ e ∷ []
rule_numbers (Def n) = n ∷ []
rule_numbers (DefPrim n) = n ∷ []
rule_numbers (Inst n ns) = n ∷ counted ns
rule_numbers (InstPrim n ns) = n ∷ counted ns
