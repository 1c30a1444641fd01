-- The grammar of items and books, over whole lists of tokens.
use Rattle.std.specs.Prelude.{◌≡◌, ℕ, ◌+◌, Bool, true, false, List, [], ◌∷◌, codes}
use Rattle.fb_base.specs.declared.places.Span.{Span}
use Rattle.fb_lex.specs.declared.tokens.Kind.{Kind}
use Rattle.fb_lex.specs.declared.tokens.Kind.TheVariants as k
use Rattle.fb_lex.specs.TokenList.{Lexeme, sign, name}
use Rattle.fb_parse.specs.Grammar.{Surface, Surfaces, more, span, Term, Terms}

-- an argument behind `by use`: a hole, or a term
pub data SurfaceArg : Type 0 where
  Hole : Span → SurfaceArg
  Given : Surface → SurfaceArg

-- How the body of a line is written. The terms behind `by elim` are all in one list, the function first.
pub data SurfaceBody : Type 0 where
  Plain : Surface → SurfaceBody
  Intro : Span → List ℕ → SurfaceBody
  Elim : Surfaces → SurfaceBody
  Same : Surface → SurfaceBody
  Fill : Span → List ℕ → List SurfaceArg → SurfaceBody

pub data SurfaceKind : Type 0 where
  Flag : Surface → SurfaceKind
  Prim : Surface → SurfaceKind
  Line : SurfaceBody → Surface → SurfaceKind

-- An item as it is written, with its number of bars. The span runs from its first token behind the bars to its last.
pub record SurfaceItem : Type 0 where
  pub bars : ℕ
  pub name : List ℕ
  pub name_span : Span
  pub span : Span
  pub kind : SurfaceKind

-- a line feed or the end of the text
abbrev pub ends_line : Kind → Bool
ends_line k.Newline = true
ends_line k.End = true
ends_line _ = false

-- Each relation reads a front of a list of tokens and leaves the rest. Before the limit no term is nested deeper than 500.
module _ (limit : ℕ) where
  pub data IsArg : List Lexeme → SurfaceArg → List Lexeme → Type 0 where
    hole : {s e : ℕ} {rest : List Lexeme} → IsArg (sign k.Hole s e ∷ rest) (Hole (span s e)) rest
    given : {s e : ℕ} {ts rest : List Lexeme} {a : Surface} → Term limit 1 ts a s e rest → IsArg ts (Given a) rest

  -- arguments, each behind a comma
  pub data MoreArgs : List Lexeme → List SurfaceArg → List Lexeme → Type 0 where
    no_more_args : {rest : List Lexeme} → MoreArgs rest [] rest
    comma : {s e : ℕ} {ts us rest : List Lexeme} {a : SurfaceArg} {xs : List SurfaceArg} →
        IsArg ts a us → MoreArgs us xs rest → MoreArgs (sign k.Comma s e ∷ ts) (a ∷ xs) rest

  -- arguments with commas between them
  pub data IsArgs : List Lexeme → List SurfaceArg → List Lexeme → Type 0 where
    args : {ts us rest : List Lexeme} {a : SurfaceArg} {xs : List SurfaceArg} → IsArg ts a us → MoreArgs us xs rest → IsArgs ts (a ∷ xs) rest

  -- arguments in parentheses that touch the name before them, or none
  pub data IsFilling : List Lexeme → List SurfaceArg → List Lexeme → Type 0 where
    nothing : {rest : List Lexeme} → IsFilling rest [] rest
    listed : {s e s1 e1 : ℕ} {ts rest : List Lexeme} {xs : List SurfaceArg} →
        IsArgs ts xs (sign k.RParen s1 e1 ∷ rest) → IsFilling (sign k.Touching s e ∷ ts) xs rest

  -- what stands behind `by`
  pub data IsWay : List Lexeme → SurfaceBody → List Lexeme → Type 0 where
    intro : {s e s1 e1 : ℕ} {word x : List ℕ} {rest : List Lexeme} → word ≡ codes "intro" →
        IsWay (name word s e ∷ name x s1 e1 ∷ rest) (Intro (span s1 e1) x) rest
    elimination : {s e s1 e1 s2 e2 s3 e3 : ℕ} {word : List ℕ} {ts us rest : List Lexeme} {f : Surface} {xs : Surfaces} → word ≡ codes "elim" →
        Term limit 1 ts f s1 e1 (sign k.Comma s2 e2 ∷ us) → Terms limit 1 us xs s3 e3 rest →
        IsWay (name word s e ∷ ts) (Elim (more f xs)) rest
    same : {s e s1 e1 : ℕ} {word : List ℕ} {ts rest : List Lexeme} {a : Surface} → word ≡ codes "same" →
        Term limit 1 ts a s1 e1 rest → IsWay (name word s e ∷ ts) (Same a) rest
    fill : {s e s1 e1 : ℕ} {word c : List ℕ} {ts rest : List Lexeme} {xs : List SurfaceArg} → word ≡ codes "use" →
        IsFilling ts xs rest → IsWay (name word s e ∷ name c s1 e1 ∷ ts) (Fill (span s1 e1) c xs) rest

  pub data IsBody : List Lexeme → SurfaceBody → List Lexeme → Type 0 where
    plain : {s e : ℕ} {ts rest : List Lexeme} {a : Surface} → Term limit 1 ts a s e rest → IsBody ts (Plain a) rest
    by : {s e : ℕ} {ts rest : List Lexeme} {b : SurfaceBody} → IsWay ts b rest → IsBody (sign k.By s e ∷ ts) b rest

  -- what stands behind the sign := of an entry, up to a place
  pub data IsEntry : List Lexeme → SurfaceKind → (end : ℕ) → List Lexeme → Type 0 where
    primitive : {s e s1 e1 s2 e2 : ℕ} {ts rest : List Lexeme} {t : Surface} →
        Term limit 1 ts t s2 e2 rest → IsEntry (sign k.Prim s e ∷ sign k.Colon s1 e1 ∷ ts) (Prim t) e2 rest
    line : {s e s1 e1 : ℕ} {ts us rest : List Lexeme} {b : SurfaceBody} {t : Surface} →
        IsBody ts b (sign k.Colon s e ∷ us) → Term limit 1 us t s1 e1 rest → IsEntry ts (Line b t) e1 rest

  -- an item behind its bars
  pub data IsItem (bars : ℕ) : List Lexeme → SurfaceItem → List Lexeme → Type 0 where
    flag : {s e s1 e1 s2 e2 s3 e3 s4 e4 : ℕ} {x : List ℕ} {ts rest : List Lexeme} {a : Surface} →
        Term limit 1 ts a s3 e3 (sign k.RBracket s4 e4 ∷ rest) →
        IsItem bars (sign k.LBracket s e ∷ name x s1 e1 ∷ sign k.Colon s2 e2 ∷ ts)
        (record { bars = bars; name = x; name_span = span s1 e1; span = span s e4; kind = Flag a }) rest
    entry : {s e s1 e1 e2 : ℕ} {x : List ℕ} {ts rest : List Lexeme} {kind : SurfaceKind} →
        IsEntry ts kind e2 rest → IsItem bars (name x s e ∷ sign k.Assign s1 e1 ∷ ts)
        (record { bars = bars; name = x; name_span = span s e; span = span s e2; kind = kind }) rest

  -- Lines up to the end, where the first of them had these bars before. A line of bars alone is no item, and behind an item
  -- the line ends.
  pub data IsLines : (bars : ℕ) → List Lexeme → List SurfaceItem → List Lexeme → Type 0 where
    end : {b s e : ℕ} {rest : List Lexeme} → IsLines b (sign k.End s e ∷ rest) [] rest
    bar : {b s e : ℕ} {ts rest : List Lexeme} {is : List SurfaceItem} → IsLines (b + 1) ts is rest → IsLines b (sign k.Bar s e ∷ ts) is rest
    next_line : {b s e : ℕ} {ts rest : List Lexeme} {is : List SurfaceItem} → IsLines 0 ts is rest → IsLines b (sign k.Newline s e ∷ ts) is rest
    item : {b s e : ℕ} {kind : Kind} {ts us rest : List Lexeme} {i : SurfaceItem} {is : List SurfaceItem} →
        IsItem b ts i (sign kind s e ∷ us) → ends_line kind ≡ true → IsLines b (sign kind s e ∷ us) is rest → IsLines b ts (i ∷ is) rest
