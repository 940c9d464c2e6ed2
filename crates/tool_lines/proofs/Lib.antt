mod PromptLaws
mod RawLaws
